-- The definitions that the contracts of the log cite.
pub mod Laws
pub mod Log
pub mod Places
pub mod Steps
mod Terms
