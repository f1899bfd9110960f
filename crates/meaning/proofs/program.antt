-- The laws of Program. Assumes nothing.
pub mod Tests
