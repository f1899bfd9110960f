-- The definitions that the contracts of `build` cite: what making room leaves. Assumes nothing.
pub mod Room
