-- The proofs of the claims in specs/. In order:
--   Uses       one use of a public function
--   Texts      one use of `typing::type_in`, and texts back and forth
--   Pieces     uses of `pieces::start`, `pieces::feed` and `pieces::end`
--   Files      one use of `file::load` and of `file::save`, and a controller swap
--   Lists      lists of requests with their answers
--   Histories  two histories of uses
--   Stores     the example, computed
--   Final      the claims one by one
-- Assumes nothing.
pub mod Uses
pub mod Texts
pub mod Pieces
pub mod Files
pub mod Lists
pub mod Histories
pub mod Stores
pub mod Final
