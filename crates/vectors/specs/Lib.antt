-- What the contracts of this program cite beside the definitions of `meaning`, `store` and `calls`. Assumes nothing.
pub mod Answers
