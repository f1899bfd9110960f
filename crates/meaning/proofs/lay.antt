-- An expression laid in new cells. In order:
--   Places    where its cells are laid, as terms are added to it
--   Each      what holds of each cell as it is laid
--   Holding   which cells each bracket holds: no cell is held by two
--   Coding    the codes of what a register denotes are codes
--   Denoting  put from `top` on they extend a sound store and denote the expression
-- Assumes nothing.
pub mod Places
pub mod Each
pub mod Holding
pub mod Coding
pub mod Denoting
