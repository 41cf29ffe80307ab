-- The lemmas: how calls join, what torn writes leave, what is read of a log, and rows worked by hand.
pub mod Appends
pub mod Makes
pub mod Moments
pub mod Places
pub mod Reading
pub mod Rows
mod RowsSteps
pub mod Tears
