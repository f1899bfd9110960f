-- Laws that belong to no one function. In order:
--   Twos      cells by their two words
--   Turning   a run turned round, a pair of cells a turn
--   Bytes     the bytes of a text that are left
--   Going     an expression laid term by term
--   Terming   one term laid
--   Whole     a whole text laid, by what reading finds
--   Final     the claim
-- Assumes nothing.
mod Twos
mod Turning
mod Bytes
mod Going
mod Terming
mod Whole
pub mod Final
