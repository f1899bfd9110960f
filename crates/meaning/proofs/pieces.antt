-- Laws of Pieces. In order:
--   Fitting   the states that go on, and that every byte that is not refused keeps them so
--   Cutting   a piece is fed as its parts are, one after the other
--   Agreeing  the counts are those of the expressions that stand open, and at the end those of the whole text
-- Assumes nothing.
pub mod Fitting
pub mod Cutting
pub mod Agreeing
