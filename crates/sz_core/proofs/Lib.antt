pub mod Groups
pub mod Relations
pub mod Placing
pub mod Going
pub mod Running
pub mod Starting
pub mod Ending
pub mod Sealing
pub mod Composing
mod Rows
