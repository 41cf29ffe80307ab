pub mod Executions
pub mod Laws
pub mod Nodes
mod Terms
