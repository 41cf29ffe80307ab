pub mod ShortNumber
pub mod ShortSets
pub mod Ways
pub mod ShortStores
pub mod Laws
mod Terms
