-- What the functions' proofs share, what follows of the definitions, and rows that these compute.
pub mod Images
pub mod Asked
pub mod OnWay
pub mod Composed
pub mod Joined
mod Rows
