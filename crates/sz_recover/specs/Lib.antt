-- What a call that reads a station does to it, what a group of a version says, which stores it has,
-- which bodies are lawful, and the laws.
pub mod Calls
pub mod Logs
pub mod Growing
pub mod OneReading
pub mod Opened
pub mod Props
pub mod Comparing
pub mod Soundness
pub mod Ticking
mod Terms
