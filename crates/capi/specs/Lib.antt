-- What has to be believed of `capi` beside `meaning`. In order:
--   Answers  what crosses to C, as the definitions have it
--   Unique   the claims that no statement leaves a second outcome
-- Assumes nothing.
pub mod Answers
pub mod Unique
