-- The definitions that the contracts of `pieces` cite. In order:
--   States   the state in numbers, as it goes from piece to piece, and what the functions promise
--   Feeding  the state as bytes are fed to it
--   Unique   that the promises leave no second outcome
-- Assumes nothing.
pub mod States
pub mod Feeding
pub mod Unique
