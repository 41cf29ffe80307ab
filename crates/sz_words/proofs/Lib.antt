-- The lemmas on the words, and rows worked by hand.
pub mod Numerals
pub mod Options
pub mod Accepted
pub mod Rows
