-- What has to be believed of `text` beside `meaning`: Answers and the claim of Unique. Page is for proofs. In order:
--   Answers  SCOPE's number and values for each case of an answer
--   Page     a text space that is written from left to right, up to the first trouble
--   Unique   the claim that no statement leaves a second outcome
-- Assumes nothing.
pub mod Answers
pub mod Page
pub mod Unique
