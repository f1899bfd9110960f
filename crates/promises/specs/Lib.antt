-- The claims that a customer reads, over `words`, `bytes` and `meaning` alone; proofs/Final.antt proves each. In order:
--   Table       demand 1: every answer is from its table, and a refusal leaves everything as it was lent
--   Requests    what may be asked of a store, and what is answered
--   Collecting  demand 2: what a collection keeps, and where
--   OwnWords    demand 2: statuses 10 to 13
--   Cells       demand 2: what a call leaves in the cells
--   Room        demand 2: the store in which room is sought
--   Calls       demand 2: what each call does, and a batch call by call
--   Outright    demand 2: what each of the twelve does
--   Alike       demand 3: collections never show
--   Printing    demands 1 and 2: a register printed
--   Reading     demand 2: a text read, and where it is refused
--   Typing      demands 1 and 2: a text typed into a register
--   Holding     demand 2: what holds the new cells of a typed text
--   Again       demand 2: printed and typed in again, typed in and printed again
--   Pieces      demands 1 and 2: a text counted as it arrives in pieces
--   Files       demands 1 and 2: what a file is; a file loaded, a store saved
--   Swap        demand 2: saved and loaded again, loaded and saved again
--   Program     what the program writes for what it reads;  ProgramRows  byte for byte
--   Unique      no claim leaves a second outcome
-- Everything is over the first heap cell F, which is more than 0.
-- Assumes nothing.
pub mod Table
pub mod Requests
pub mod Collecting
pub mod OwnWords
pub mod Cells
pub mod Room
pub mod Calls
pub mod Outright
pub mod Alike
pub mod Printing
pub mod Reading
pub mod Typing
pub mod Holding
pub mod Again
pub mod Pieces
pub mod Files
pub mod Swap
pub mod Program
pub mod ProgramRows
pub mod Unique
