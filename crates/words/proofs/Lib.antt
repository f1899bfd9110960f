-- Laws that belong to no one function, for this crate's proofs and its callers'. Assumes nothing.
pub mod Laws
pub mod Masks
pub mod Plain
pub mod Cells
mod Fields
