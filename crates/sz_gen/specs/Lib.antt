-- What the session of a number is, and the line that sums it up.
pub mod Draws
pub mod Lists
pub mod Session
pub mod Laws
pub mod Summary
mod Terms
