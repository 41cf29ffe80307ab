-- The files of definitions, the lower ones first.
pub mod Lines
pub mod Transcript
pub mod Stops
pub mod Faults
pub mod Commands
pub mod Asks
pub mod Given
pub mod States
pub mod Carrying
pub mod Inquiries
pub mod Refreshing
pub mod Logged
mod Terms
