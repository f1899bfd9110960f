-- Laws of Text. In order:
--   Texts     the text of expressions put together
--   Printing  what is printed, by its cases
--   Troubles  what the text of an expression meets as it is written
-- Assumes nothing.
pub mod Texts
pub mod Printing
pub mod Troubles
