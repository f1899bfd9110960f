-- Laws that belong to no one function. In order:
--   Suiting  what a judgement says of a byte
-- Assumes nothing.
mod Suiting
