pub mod LawsSupports
pub mod Suspects
pub mod LawsSuspects
pub mod Changes
pub mod LawsMatter
pub mod LawsExactly
mod Terms
