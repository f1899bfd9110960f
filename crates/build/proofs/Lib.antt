-- Laws that belong to no one function, for this crate's proofs and its callers'. In order:
--   Runs   two runs laid one after the other
--   Rooms  the rule for room, whatever the store is in which it is sought
-- Assumes nothing.
mod Runs
pub mod Rooms
