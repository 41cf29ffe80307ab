-- Region pairs by rectangles round their sets.
pub mod Indexed
mod Terms
