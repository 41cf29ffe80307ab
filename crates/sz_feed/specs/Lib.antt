-- The files of definitions, the lower ones first.
pub mod Moments
pub mod Serving
pub mod Making
pub mod Disks
pub mod Waiting
pub mod Plain
pub mod Running
pub mod Calls
pub mod Laws
mod Terms
