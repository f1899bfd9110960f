-- What has to be believed of bytes, numbers and lent spaces. In order:
--   Little   words as little-endian bytes
--   Decimal  numbers in decimal
--   Space    a lent space that is written from left to right, or filled
--   Places   the space that the code leaves, by its answer
--   Claims   what is written is read back
-- Assumes nothing.
pub mod Little
pub mod Decimal
pub mod Space
pub mod Places
pub mod Claims
