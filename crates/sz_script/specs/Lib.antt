pub mod Refusals
pub mod Names
pub mod Fields
pub mod Words
pub mod Kernels
pub mod Nodes
pub mod Layers
pub mod Records
pub mod Right
pub mod Drafts
pub mod Form
pub mod Questions
pub mod Forms
pub mod Reading
pub mod Laws
mod Terms
