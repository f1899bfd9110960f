-- One outcome. In order:
--   Words     a sound store's words, cell by cell
--   Calls     a call
--   Texts     a text typed into a sound store
--   Outcomes  every public function
-- Assumes nothing.
pub mod Words
pub mod Calls
pub mod Texts
pub mod Outcomes
