-- The laws of the definitions, for the crates above to cite, in a folder for each file of definitions. In order, each
-- using only those before it:
--   Lists      ascending lists of numbers, and counts of what is below a number
--   Counting   tests at the next number, and how many cells below one are in a set
--   sound      what soundness says of a store's cells, their words and fields
--   meaning    the meaning of cells, along a map of addresses
--   reach      the computed list has exactly the reached cells, in ascending order
--   collected  the collected store: its words, soundness, meaning, what determines it
--   check      the check answers 0 exactly for a sound store, 3 with the lowest cell that breaks its rule
--   fresh      a fresh store is sound and empty
--   look       the look
--   operands   the table of operand words
--   actions    registers and cells written, new cells laid
--   call       one call, plans and the rule for room
--   effect     each call does to expressions what its row says
--   lay        an expression laid in new cells
--   batch      a batch, call by call; the values that come back
--   program    the program's tests
--   text       the text of expressions put together; printing by its cases
--   reader     a text read: what was read is what is written, and what was written is read
--   twins      what a call does in a store, it does in any store with the same canonical words
--   typed      a text typed in, by its cases; what it does to expressions, and in twins
--   file       a store as a file: what is saved is loaded, and what is loaded is saved
--   Worked     the tables of worked stores, of texts and of files are right
-- Assumes nothing.
pub mod Lists
pub mod Counting
pub mod sound
pub mod meaning
pub mod reach
pub mod collected
pub mod check
pub mod fresh
pub mod look
pub mod operands
pub mod actions
pub mod call
pub mod effect
pub mod lay
pub mod batch
pub mod program
pub mod text
pub mod reader
pub mod pieces
pub mod twins
pub mod typed
pub mod file
pub mod Worked
