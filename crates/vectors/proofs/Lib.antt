-- Laws on plain lists that the proofs of this crate cite. Assumes nothing.
pub mod Parts
