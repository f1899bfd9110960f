-- The laws of File. In order:
--   Images    the store in a file, word by word; zeros after its cells change nothing
--   Accepted  what a file that is not refused must be
--   Written   the file of a store, part by part, and its store read back
--   Swapping  saving and loading, loading and saving
--   Fits      the values that come back
-- Assumes nothing.
pub mod Images
pub mod Accepted
pub mod Written
pub mod Swapping
pub mod Fits
