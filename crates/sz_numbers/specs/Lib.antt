-- The number that bytes at a place spell.
pub mod Numbers
mod Terms
