-- The files of lemmas and of worked rows.
pub mod Ends
pub mod Written
pub mod Loads
pub mod Makings
pub mod Checkings
pub mod Raisings
pub mod Continuing
pub mod Modes
pub mod Exactly
pub mod Statuses
pub mod Numbers
pub mod Sayings
mod RowsChecking
mod RowsRaising
mod RowsContinuing
mod RowsSessions
