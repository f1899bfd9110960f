-- The claim of Room: the store in which room is sought, by the table of operand words.
-- Assumes nothing.
pub mod Seeking
