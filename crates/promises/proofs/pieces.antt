-- A text counted as it arrives in pieces. In order:
--   Most     the most terms of one expression
--   Whole    what counting a whole text answers, and what typing it in will
--   Cutting  however it is cut
-- Assumes nothing.
pub mod Most
pub mod Whole
pub mod Cutting
