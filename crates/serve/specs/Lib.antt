-- What the contracts of this crate cite beside the definitions of `meaning`. Assumes nothing.
pub mod Faults
pub mod Front
pub mod Lines
pub mod Needs
pub mod Serves
pub mod Unique
