-- The laws of Operands. In order:
--   Uses   the table of operand words; a call whose own words are right
--   Table  that table by rows, and a test over the three words of a call
-- Assumes nothing.
pub mod Uses
pub mod Table
