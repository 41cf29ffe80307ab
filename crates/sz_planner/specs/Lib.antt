pub mod Choices
pub mod Offers
pub mod Costs
pub mod Laws
mod Terms
