-- What follows of affected cells, what the functions' proofs share, and rows.
pub mod Affected
pub mod Changes
pub mod Covered
pub mod Gaps
pub mod Joined
pub mod Matched
pub mod Names
pub mod Nodes
pub mod Outputs
pub mod OwnPlaces
pub mod RowsNames
pub mod RowsRefresh
pub mod Runs
pub mod Squares
pub mod Steps
