-- The lemmas on lists of boxes and of levels.
pub mod Boxes
pub mod Elements
