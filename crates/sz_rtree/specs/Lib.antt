-- Rectangles by number, the next that overlaps, and the boxes that keep a look short.
pub mod Rectangles
pub mod Laws
pub mod Levels
mod Terms
