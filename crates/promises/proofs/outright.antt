-- Demand 2, the twelve outright. Assumes nothing.
pub mod Twelve
