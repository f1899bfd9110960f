-- What the pass up makes of the words. In order:
--   Lowered   a cell's words from its fields, and a placed cell lowered
--   Laying    a cell put down, its ends lower
-- Assumes nothing.
pub mod Lowered
mod Laying
