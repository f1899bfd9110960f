-- The laws of Actions. In order:
--   Writing  a register or the first free cell is written
--   Laying   new cells laid from `top` upward
--   Copying  a run copied cell by cell
-- Assumes nothing.
pub mod Writing
pub mod Laying
pub mod Copying
