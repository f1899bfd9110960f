-- The laws of Collected. In order:
--   Laid        the words of cells laid out one after the other
--   Collecting  the collected store: its words, soundness, meaning
--   Again       every cell of it is reached
--   Determined  what determines the collected words; new addresses in order, never up, never merged
--   Whole       collecting changes nothing where every cell is reached, so collecting again does not
--   Held        it is so exactly where each cell lies between the ends of some cell
-- Assumes nothing.
pub mod Laid
pub mod Collecting
pub mod Again
pub mod Determined
pub mod Whole
pub mod Held
