-- What has to be believed of `store` beside `meaning`. In order:
--   Answers  SCOPE's number and values for each case of an answer
--   Passing  what a pass of the check says of the cells that it went over
--   Holds    what a cell is read as
--   Unique   the claims that no statement leaves a second outcome
-- Assumes nothing.
pub mod Answers
pub mod Passing
pub mod Holds
pub mod Unique
