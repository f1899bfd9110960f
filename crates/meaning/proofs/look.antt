-- The laws of Look. Assumes nothing.
pub mod Looking
