pub mod Laws
pub mod Before
pub mod Changes
pub mod Names
pub mod Outputs
pub mod Whole
mod Terms
