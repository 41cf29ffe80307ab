-- Which job the words ask for, and which file they name.
pub mod Command
pub mod Numbers
pub mod Job
pub mod Place
mod Terms
