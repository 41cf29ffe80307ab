pub mod Growths
pub mod Views
pub mod Turns
pub mod Answers
pub mod Sides
pub mod Laws
mod Terms
