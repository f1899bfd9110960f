-- A turn of the sweep, by Step. In order:
--   Undoing  the chain of a cell undone
--   Turning  the cell put down
--   Telling  what a chain tells
--   Swept    the store after all turns
-- Assumes nothing.
pub mod Undoing
pub mod Turning
pub mod Telling
pub mod Swept
