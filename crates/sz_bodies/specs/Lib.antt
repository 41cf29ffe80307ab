-- What a group of a version says, which stores it has, which bodies are lawful, and the laws.
pub mod Bodies
pub mod Fitting
pub mod Lawful
pub mod Laws
pub mod Taking
pub mod Tries
mod Terms
