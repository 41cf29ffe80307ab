-- What contracts name, how it is known, and what the laws say.
pub mod Changes
pub mod Claims
pub mod Owners
pub mod Rule
mod Terms
