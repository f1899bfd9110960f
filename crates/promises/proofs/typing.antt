-- A text typed in. In order:
--   Typing   what it does in a sound store
--   Answers  every answer is from its table, and no second one is
--   Again    printed and typed in again, typed in and printed again
--   Holding  what holds the new cells
-- Assumes nothing.
pub mod Typing
pub mod Answers
pub mod Again
pub mod Holding
