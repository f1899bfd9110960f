-- Demand 2, collecting. Assumes nothing.
pub mod Keeping
