-- The laws of Effect. In order:
--   Effects   laws over an effect, whatever it is the effect of
--   Stepping  each call does to expressions what its row says, where it acts
--   Building  the same for the calls that lay new cells
--   Steps     any call; a batch, call by call
-- Assumes nothing.
pub mod Effects
pub mod Stepping
pub mod Building
pub mod Steps
