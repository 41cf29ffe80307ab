pub mod Steps
pub mod States
pub mod Images
pub mod Events
pub mod Starts
pub mod Links
pub mod Invariants
pub mod Laws
pub mod Examples
mod Terms
