-- The laws of Sound. In order:
--   Cells   what soundness says of cells, and back to words; what is known of the limit and of codes
--   Fields  what the words and fields of a sound store's cells are
-- Assumes nothing.
pub mod Cells
pub mod Fields
