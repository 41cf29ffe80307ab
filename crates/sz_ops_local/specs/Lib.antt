pub mod Local
pub mod Windows
mod Terms
