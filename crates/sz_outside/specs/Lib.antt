-- The definitions that the contracts of sources and stations cite.
pub mod Calls
pub mod Counts
pub mod Disk
pub mod History
pub mod Memory
pub mod Outside
mod Terms
