-- What the writers do to a text space, and what comes of it. In order, each using only those before it:
--   Pages    a text written byte by byte
--   Steps    what the term writer and the expression writer do, step by step
--   Fitting  a text that is written as far as it goes is printed as the definition says
--   Final    no statement of this crate leaves a second outcome
-- Assumes nothing.
mod Pages
mod Steps
mod Fitting
pub mod Final
