-- The lemmas: of lineages that fit as needed, of marks of placed pieces, of the stores of a tag, and of region pairs
-- with the images of cells; then of lists, of the kinds of step, of a turn, of the machine's replies, and of the laws;
-- and of what crosses threads.
pub mod Fitting
pub mod Marks
pub mod Stores
pub mod Apart
pub mod Lists
mod Moves
mod Slots
mod Turning
mod Telling
pub mod Looks
mod Pairs
mod Reading
mod Effects
pub mod Crossing
mod Rows
mod RowsSteps
mod RowsPasses
mod RowsPairs
