-- The definitions that the contracts of `calls` cite, and its claims. In order:
--   Refusals    the status of each refusal
--   Answers     a call's answer and a batch's, with SCOPE's numbers
--   Operations  the operations, and how a call uses its words
--   Calling     the calls of a batch, one by one
--   Claims      no second outcome
-- Assumes nothing.
pub mod Refusals
pub mod Answers
pub mod Operations
pub mod Calling
pub mod Claims
