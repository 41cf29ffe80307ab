-- What the stores of a node keep and stand for, their bytes, what stays true of them, which
-- lineages can be placed, whether lineages are those that are kept, and the law of a store in which
-- each piece was placed.
pub mod Kept
pub mod Stocks
pub mod Words
pub mod Stocked
pub mod Needed
pub mod Checklists
pub mod Laws
mod Terms
