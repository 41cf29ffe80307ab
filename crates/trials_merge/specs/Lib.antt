-- What the tests' contracts name.
pub mod Bench
