-- The lemmas: of lineages made by tests, of marks, of groups, of pairs that are kinds as they are, of kinds, of
-- lineages of one set each, of kinds whose sets are numbered, of stores one after another, of stores on a shelf, of how
-- many different lineages there are, of how many kinds what stands has, of the numbers that are told, and that a task
-- moves between threads; and rows of what the definitions compute.
pub mod Sets
pub mod Marked
pub mod Grouped
pub mod Further
pub mod Sorting
pub mod Listed
pub mod Numbered
pub mod Behind
pub mod Swapped
pub mod Different
pub mod Counted
pub mod Stood
pub mod Told
pub mod Crossing
mod Rows
