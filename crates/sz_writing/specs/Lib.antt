pub mod Orders
pub mod Written
mod Terms
