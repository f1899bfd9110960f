-- The definitions that the contracts of `reader` cite: the reader of the code as the definitions have it, and what a
-- text is found to be. Assumes nothing.
pub mod Readers
