-- Demand 2, calls and batches. In order:
--   Touching  which words an action changes, and its `top`
--   Leaving   what an action leaves in the cells
--   Rooms     the store in which new cells are laid, and what is left of it
--   Acting    in which store
--   Calling   each call; a batch call by call
-- Assumes nothing.
pub mod Touching
pub mod Leaving
pub mod Rooms
pub mod Acting
pub mod Calling
