-- The laws of Reach. Assumes nothing.
pub mod Reaching
