-- What has to be believed of `file` beside `meaning`: Answers and the claims of Unique. The others are for proofs. In
-- order:
--   Answers  SCOPE's number and values for each case of an answer
--   Body     the store in a file, from its bytes
--   Images   what an image of the code stands for
--   Windows  which cells lie between the ends of some cell
--   Judged   what the code finds of a file
--   Written  a store saved, before the space after its file is cleared
--   Unique   the claims that no statement leaves a second outcome
-- Assumes nothing.
pub mod Answers
pub mod Body
pub mod Images
pub mod Windows
pub mod Judged
pub mod Written
pub mod Unique
