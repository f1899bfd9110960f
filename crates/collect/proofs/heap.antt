-- The laws of Heap and Chain. In order:
--   Order    the order of the sweep, and what a holder is
--   Places   where it puts the cells
--   Spots    the cells' fields, and where they stand
--   Mending  when a holder is mended
-- Assumes nothing.
pub mod Order
pub mod Places
pub mod Spots
pub mod Mending
