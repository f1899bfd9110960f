-- Laws of Typed. In order:
--   Cases     what typing a text in answers, by its cases
--   Meeting   a whole text does to expressions what it says
--   Agreeing  typed into twins it answers the same, and leaves twins
-- Assumes nothing.
pub mod Cases
pub mod Meeting
pub mod Agreeing
