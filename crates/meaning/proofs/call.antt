-- The laws of Call. In order:
--   Performing  one call by its operation
--   Joining     JOIN by which of its registers are empty
--   Sought      the store in which room is sought
--   Plans       a plan carried out; the rule for room
-- Assumes nothing.
pub mod Performing
pub mod Joining
pub mod Sought
pub mod Plans
