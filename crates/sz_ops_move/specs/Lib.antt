pub mod Moving
pub mod Turning
pub mod Entries
mod Terms
