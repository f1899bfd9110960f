-- What the functions of the sweep make of the words. Assumes nothing.
pub mod Standing
pub mod Running
pub mod Descending
