-- Laws that belong to no one function. In order:
--   Uses        how a word is used, by its number
--   Judging     what is wrong with a call's own words
--   Firsts      HEAD, REST, OPEN and FIRST by the register's terms
--   Performing  one call whose words have been judged
--   Running     the calls of a batch, one by one
--   Batching    a batch by its tests
--   Outcomes    what an outcome says
--   Final       the claims
-- Assumes nothing.
mod Uses
mod Judging
mod Firsts
mod Performing
mod Running
mod Batching
mod Outcomes
pub mod Final
