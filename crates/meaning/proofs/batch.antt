-- The laws of Batch. In order:
--   Batches  calls one after the other, and a list of them cut anywhere
--   Cases    a batch by its tests
--   Fits     the values that come back are at most the limit
-- Assumes nothing.
pub mod Batches
pub mod Cases
pub mod Fits
