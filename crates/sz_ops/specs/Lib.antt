-- Each file of definitions.
pub mod Aids
mod Terms
