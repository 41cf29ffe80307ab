-- The files of definitions, the lower ones first.
pub mod Runs
pub mod Stores
pub mod Views
pub mod Lending
pub mod Efforts
pub mod Searches
pub mod Along
pub mod Recalled
pub mod Inquiries
pub mod Residents
pub mod Carried
pub mod Merging
pub mod Bodies
mod Terms
