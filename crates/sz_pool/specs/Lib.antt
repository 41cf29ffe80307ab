-- What contracts name.
pub mod Tagged
pub mod Effort
pub mod Growing
pub mod Making
pub mod Tries
pub mod Tasks
pub mod Replies
mod Terms
