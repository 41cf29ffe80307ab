-- The lemmas: of the cells of pieces and of those that are left over, of one turn, of tries one after another, of how a
-- shelf is filled, and of what crosses threads.
mod Cells
mod Left
mod Turns
mod Following
mod Same
mod Filling
pub mod Crossing
