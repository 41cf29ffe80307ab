-- What contracts name, how it is known, and what the laws say.
pub mod Tags
pub mod Fitting
pub mod Contents
pub mod Placed
pub mod Keeping
pub mod Apart
pub mod LawsStores
pub mod Places
pub mod Rule
pub mod Steps
pub mod Turns
pub mod Answers
pub mod Passes
pub mod Machine
pub mod LawsMachine
pub mod Rules
pub mod Changes
mod Terms
