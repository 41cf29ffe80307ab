-- The lemmas, from the counts up to the laws. Reach is for callers.
mod Counts
mod Change
pub mod Reach
mod Readings
mod Rows
mod Steps
