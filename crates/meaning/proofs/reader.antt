-- Laws of Judge and Reader. In order:
--   Moves       what a byte can do, by cases
--   Drafts      what a draft is of the bytes read so far
--   Keeping     and that every byte keeps it so
--   Forth       a text that is read whole is the text of what it is read as
--   Completing  bytes that do not stop the reader begin a text
--   Freely      a text read whatever the number of its terms
--   Codes       single bytes where they may stand, and a code read
--   Back        the text of an expression, read, gives the expression back
--   Standing    where the reader stands, by the bytes that it has read last
--   Leftmost    where bytes stop the reader, and why
-- Assumes nothing.
pub mod Moves
pub mod Drafts
pub mod Keeping
pub mod Forth
pub mod Completing
pub mod Freely
pub mod Codes
pub mod Back
pub mod Standing
pub mod Leftmost
