-- Laws that belong to no one function. In order, each using only those before it:
--   Editions  the table of kinds
--   Parts     parts of lists, and a store read and written in two of them
--   Noting    a window's notes, and a look along them
--   Windowed  the heap window by window; where each heap cell is held, each is reached
--   Trailers  the verdict on a file, test by test of its trailer
--   Judges    and on the store in it
--   Loads     what loading leaves
--   Saves     what saving leaves
--   Final     no statement of this crate leaves a second outcome
-- Assumes nothing.
mod Editions
mod Parts
mod Noting
mod Windowed
mod Trailers
mod Judges
mod Loads
mod Saves
pub mod Final
