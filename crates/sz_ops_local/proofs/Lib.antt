pub mod Places
pub mod WindowCells
pub mod Blocks
pub mod Arithmetic
pub mod Fits
pub mod Made
