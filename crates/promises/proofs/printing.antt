-- Printing. In order:
--   Meeting  what a text meets, by the place of the first trouble
--   Printed  every answer is from its table, and by what a register denotes
-- Assumes nothing.
pub mod Meeting
pub mod Printed
