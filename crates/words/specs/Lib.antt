-- The definitions that the contracts of `words` cite: a cell's second word as fields, and the two words of a cell of a
-- store. Assumes nothing.
pub mod Second
pub mod Cell
