-- The proofs of the claims in specs/, in a folder for each file of claims; Verdicts is for all of them, and Final has
-- the claims one by one.
-- Assumes nothing.
pub mod Verdicts
pub mod table
pub mod collecting
pub mod typing
pub mod ownwords
pub mod room
pub mod calls
pub mod outright
pub mod alike
pub mod printing
pub mod reading
pub mod pieces
pub mod files
pub mod program
pub mod unique
pub mod Final
