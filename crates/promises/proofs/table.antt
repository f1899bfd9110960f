-- Demand 1. In order:
--   Cells    the rules of a cell, in words
--   Rules    what each test of a store, a call and a batch says, in words
--   Numbers  the numbers that come back
--   Tables   every answer is from its table
-- Assumes nothing.
pub mod Cells
pub mod Rules
pub mod Numbers
pub mod Tables
