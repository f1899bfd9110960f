-- Files. In order:
--   Words    the file of a store, word by word
--   Loading  a file loaded: every answer is from its table, and no second one is
--   Saving   a store saved, likewise
--   Swaps    saved and loaded, loaded and saved
-- Assumes nothing.
pub mod Words
pub mod Loading
pub mod Saving
pub mod Swaps
