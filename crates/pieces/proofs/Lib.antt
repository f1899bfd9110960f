-- Laws that belong to no one function. In order:
--   Final    the claims that no promise leaves a second outcome
--   Looking  counts that are each at most some number
--   Numbered  the struct gives the state back
--   Bytes    what stays in range as a piece is fed, a byte a turn
-- Assumes nothing.
pub mod Final
mod Looking
pub mod Numbered
mod Bytes
