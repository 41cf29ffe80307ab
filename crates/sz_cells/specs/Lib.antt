-- What contracts speak of: shapes, sets, runs, bytes, and the laws of these.
pub mod Extent
pub mod Cells
pub mod Rising
pub mod Runs
pub mod Words
pub mod SetBytes
pub mod SetWords
pub mod Laws
mod Terms
