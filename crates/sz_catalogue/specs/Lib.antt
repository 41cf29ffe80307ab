-- The files of definitions, the lower ones first.
pub mod Holdings
pub mod Starts
pub mod Refreshes
pub mod Merges
pub mod Sites
pub mod Rules
pub mod Responses
pub mod Plans
pub mod Changes
pub mod Kept
pub mod Order
pub mod Seen
pub mod Laws
mod Terms
