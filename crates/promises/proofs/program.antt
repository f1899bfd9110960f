-- The program. Assumes nothing.
pub mod Written
