-- The bytes of sets and stores: what is written, what is read, and the laws of both.
pub mod Taking
pub mod Counted
pub mod FullBytes
pub mod PayBytes
pub mod Putting
pub mod Stores
pub mod LawsStores
mod Terms
