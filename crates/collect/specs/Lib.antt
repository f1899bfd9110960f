-- The definitions that the contracts of `collect` cite. In order:
--   Cells    a cell's fields as links
--   Heap     a sound store apart from its words, and the order of the sweep
--   Chain    its cells in closed form while chains stand
--   Step     what one step makes of them
--   Phases   the phases of the sweep
--   Passes   what the functions of the sweep ask for and leave;  Lowering  those of the pass up
--   Answers  SCOPE's number and values for each case of the answer
--   Unique   the claim that collecting's statement leaves no second outcome
-- Assumes nothing.
pub mod Cells
pub mod Heap
pub mod Chain
pub mod Step
pub mod Phases
pub mod Passes
pub mod Lowering
pub mod Answers
pub mod Unique
