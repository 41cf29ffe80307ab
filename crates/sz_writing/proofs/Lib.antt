-- The lemmas: of texts of lists, of a walk over cells, of sizes, and of the order of an array.
pub mod Texts
pub mod Walks
pub mod Sizes
pub mod Orders
