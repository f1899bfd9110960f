-- What the functions on chains make of the words. Assumes nothing.
pub mod Releasing
