-- The lemmas: of taps, of squares, of the input, of the least number, of sums.
pub mod Taps
pub mod Squares
pub mod Inputs
pub mod Least
pub mod Sums
pub mod Walks
pub mod Sweeps
mod Rows
