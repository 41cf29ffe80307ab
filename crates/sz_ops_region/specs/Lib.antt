pub mod Regions
pub mod Marks
pub mod Stretches
pub mod Numbers
pub mod Sides
pub mod Sets
pub mod Labelled
pub mod Prepared
pub mod Parts
pub mod Tracing
pub mod Links
pub mod Linking
mod Terms
