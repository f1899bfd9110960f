-- Demand 3. In order:
--   Alikes    alike, by canonical words and by collecting
--   Requests  lists of requests, run one after the other
--   Striking  lists of requests without COLLECT, and cut into batches
-- Assumes nothing.
pub mod Alikes
pub mod Requests
pub mod Striking
