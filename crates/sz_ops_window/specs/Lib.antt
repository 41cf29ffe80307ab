pub mod Windowed
pub mod Taps
pub mod Sums
pub mod Least
pub mod Sweeps
mod Terms
