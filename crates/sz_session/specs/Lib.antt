-- The files of definitions, the lower ones first.
pub mod Checking
pub mod Raising
pub mod Statuses
pub mod Sessions
pub mod Continuing
pub mod Modes
mod Terms
