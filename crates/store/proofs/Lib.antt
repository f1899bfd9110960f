-- Laws that belong to no one function, for this crate's proofs and its callers'. In order:
--   Rules     a cell's rules, tested with no branch
--   Damage    passes that gather damage in a word
--   Refusals  an unsound store's refusal and its numbers
--   Sounds    what the answer of the check says of the store; which cells of a sound store may be read
--   Registers the contents of a register
--   Held      a bracket's contents and a term, from the second word; what a `match` on a term learns
--   Alone     collecting alone, by the answer of the check
--   Looked    where a register's cells lie
--   Final     no statement of this crate leaves a second outcome
-- Assumes nothing.
mod Rules
mod Damage
pub mod Refusals
pub mod Sounds
pub mod Registers
pub mod Held
pub mod Alone
pub mod Looked
pub mod Final
