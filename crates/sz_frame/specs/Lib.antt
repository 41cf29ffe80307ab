pub mod Parts
pub mod Stands
pub mod Fits
pub mod Images
pub mod Walks
pub mod Single
pub mod Groups
pub mod Written
pub mod Folding
pub mod Laws
mod Terms
