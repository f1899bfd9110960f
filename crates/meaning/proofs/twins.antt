-- Stores that collecting makes equal: what is done to the one is done to the other. In order:
--   Canons  the canonical words of a store: those that collecting leaves, without the zeros
--   Follow  stores that follow one another, cell by cell, have the same canonical words
--   Pairs   a store and that store collected, and both with a register set or with n new cells
--   Agree   what an action does in a store, it does in that store collected; without new cells
--   Builds  the same with new cells
--   Texts   and for an expression laid in new cells
--   Twins   what an action does in a store, it does in any store with the same canonical words; room sought first
--   Calls   so does a call
-- Assumes nothing.
pub mod Canons
pub mod Follow
pub mod Pairs
pub mod Agree
pub mod Builds
pub mod Texts
pub mod Twins
pub mod Calls
