-- Payloads of operators, the index of entries, what looks add, and stores in bytes.
pub mod Kept
pub mod Words
pub mod Owned
pub mod Looks
pub mod Begins
mod Terms
