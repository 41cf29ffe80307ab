-- What stands behind an output cell, which region pairs are kinds, and are so one after another,
-- how the cells of each number are linked, what stays true of numbered lineages and cells, what
-- merged stores are, how many kinds a store has by what it stands for, and the laws of the numbers
-- that are told.
pub mod Lineages
pub mod Distinct
pub mod Apart
pub mod Spelled
pub mod Links
pub mod Marks
pub mod Merged
pub mod Stood
pub mod Laws
mod Terms
