-- Laws of the definitions, for this crate's proofs and those above. In order:
--   Endian    words of bytes and bytes of words
--   Decimals  decimal digits
--   Turned    a number's digits, found from the last one on
--   Spaces    a space that is written from left to right
--   Filling   a list that is filled, an element a turn
--   Final     the claims of specs/Claims
-- Assumes nothing.
pub mod Endian
pub mod Decimals
mod Turned
pub mod Spaces
pub mod Filling
pub mod Final
