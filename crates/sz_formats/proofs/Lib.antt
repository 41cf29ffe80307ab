-- The lemmas: what stands at a place, one store in two spellings, stores one after another, what is said where none was
-- read, stores through the other format, and rows.
pub mod Known
pub mod Twice
pub mod Each
mod Said
mod Through
mod Rows
