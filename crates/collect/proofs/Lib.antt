-- Laws that belong to no one function, for this crate's proofs and its callers'. In order:
--   heap       the closed form of a store's cells while chains stand
--   turn       one turn of the sweep in that form, and all of them
--   Heaps      a sound store as what the sweep starts from
--   Puts       cells after their words are put
--   chains, sweep, lower  what the functions make of the words
--   Compacted  the passes one after the other, and the collected words
--   Restored   the sweep that packs nothing
--   Wanted     a collection that is wanted only where it frees enough
--   Final      collecting's statement leaves no second outcome
-- Assumes nothing.
pub mod heap
pub mod turn
pub mod Heaps
pub mod Puts
pub mod Compacted
pub mod Restored
pub mod Wanted
pub mod Final
