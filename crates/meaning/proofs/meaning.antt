-- The laws of Meaning. Assumes nothing.
pub mod Terms
