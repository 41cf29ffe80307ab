-- How a node's stores are spelled in each format of a log, and the laws.
pub mod Formats
pub mod Words
pub mod Twice
pub mod Laws
mod Terms
