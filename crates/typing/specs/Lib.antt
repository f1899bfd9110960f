-- The definitions that the contracts of `typing` cite. In order:
--   Cells     cells by their two words; a run turned round
--   Scanning  the bytes of a text that are left
--   Laying    what laying an expression needs and leaves
--   Answers   what typing answers, and what it promises
--   Unique    that this leaves no second outcome
-- Assumes nothing.
pub mod Cells
pub mod Scanning
pub mod Laying
pub mod Answers
pub mod Unique
