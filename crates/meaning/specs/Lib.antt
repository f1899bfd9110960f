-- What has to be believed of the store, in SCOPE's words. In order:
--   Limits     the numbers
--   Expr       expressions
--   Sound      cells, their two words, and what makes a store sound
--   Meaning    what a register denotes
--   Reach      which heap cells are reached; live
--   Collected  the store that collecting leaves, word for word
--   Verdicts   the numbers that come back
--   Check      the check; collecting alone
--   Fresh      a fresh store
--   Look       the look
--   Operands   the twelve operations, the table of their operand words, statuses 10 to 13
--   Actions    what each operation does to the words
--   Lay        an expression laid in new cells
--   Call       one call: plans and the rule for room
--   Effect     one call: what it does to expressions
--   Batch      a batch as it is lent
--   Program    what the program writes for what it reads
--   Text       the text of an expression; a register printed
--   Judge      the judgement of a byte of a text that is read
--   Reader     a text read: where it stops, or the expression that it denotes
--   Typed      a register typed in
--   Pieces     a text counted, whole and as it arrives in pieces
--   Rows       the worked stores P1 to P14, as one table
--   TextRows   the texts to try, as one table
--   PieceRows  the texts in pieces to try, as one table
--   File       a store as a file: its bytes, loading and saving
--   FileRows   the files to try, as one table
-- Everything is over the first heap cell F as a parameter. In a signature `ws` are the store's words and `c` is a cell.
-- Names of laws end in -same, -other (after a cell is put), -length, -kept (unchanged), -mono, -step (one turn),
-- -unique, -iff.
-- Assumes nothing.
pub mod Limits
pub mod Expr
pub mod Sound
pub mod Meaning
pub mod Reach
pub mod Collected
pub mod Verdicts
pub mod Check
pub mod Fresh
pub mod Look
pub mod Operands
pub mod Actions
pub mod Lay
pub mod Call
pub mod Effect
pub mod Batch
pub mod Program
pub mod Text
pub mod Judge
pub mod Reader
pub mod Typed
pub mod Pieces
pub mod Rows
pub mod TextRows
pub mod PieceRows
pub mod File
pub mod FileRows
