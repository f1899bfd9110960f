-- A text read. In order:
--   Beginning  the terms that begin in bytes
--   Stopping  what stops the reader, in terms of the bytes before it
--   Refusing  what is read is what was written; a text is refused leftmost, and in one way
-- Assumes nothing.
pub mod Beginning
pub mod Stopping
pub mod Refusing
