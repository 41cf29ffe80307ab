pub mod Windows
pub mod Inputs
pub mod Layers
pub mod Turned
pub mod Copied
