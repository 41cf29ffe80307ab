-- The files of lemmas and of worked rows.
pub mod Names
pub mod ByName
pub mod NodeLists
pub mod Runs
pub mod Numbers
pub mod Texts
pub mod Bases
pub mod Counts
pub mod Entries
pub mod Order
pub mod Refreshed
pub mod Judging
pub mod FlowSites
pub mod Refusals
pub mod PathStarts
mod RowsSaid
mod Rows
mod RowsLimits
mod RowsPaths
mod RowsPlans
