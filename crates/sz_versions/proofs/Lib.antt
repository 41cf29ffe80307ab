-- The files of lemmas.
pub mod Ways
pub mod Steps
pub mod PathViews
pub mod Inquiries
pub mod Keeping
mod Lending
pub mod Kept
pub mod Keeps
pub mod Stays
pub mod FromLogs
mod Still
mod Along
pub mod Asked
pub mod Residents
mod Service
pub mod Ordered
pub mod Trails
pub mod Refreshes
pub mod MergedNodes
mod MergedRuns
mod Lent
mod MergedKinds
mod SoundKinds
pub mod RowsLending
pub mod RowsResidents
pub mod RowsMerging
