-- Demand 2, a call's own words. Assumes nothing.
pub mod Faults
