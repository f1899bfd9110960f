-- The laws of Check. In order:
--   Rules     the judgement of a cell by cases, and that it gives 0 exactly where the cell keeps its rule
--   Checking  the check answers 0 exactly for a sound store, 3 with the lowest cell that breaks its rule
--   Scanning  the check by its tests, and its scan of the cells a step at a time
-- Assumes nothing.
pub mod Rules
pub mod Checking
pub mod Scanning
