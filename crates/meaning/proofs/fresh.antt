-- The laws of Fresh. In order:
--   Making  the words of a fresh store
--   Fresh   a fresh store is sound and empty
-- Assumes nothing.
pub mod Making
pub mod Fresh
