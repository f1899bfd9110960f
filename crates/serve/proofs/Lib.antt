-- Laws on plain lists and numbers that the proofs of this crate cite. In order:
--   Spacing  what the lines of the output are made of, and how many bytes they take
--   Inputs   the input's words as calls
--   Batched  a batch on a fresh store
--   Final    the claim that there is one outcome
-- Assumes nothing.
pub mod Spacing
pub mod Inputs
pub mod Batched
pub mod Final
