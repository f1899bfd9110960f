-- Laws of the crate. In order:
--   Values  the value of an answer fits a word
--   Final   no statement of this crate leaves a second outcome
-- Assumes nothing.
mod Values
pub mod Final
