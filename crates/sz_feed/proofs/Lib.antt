-- The files of lemmas.
pub mod Waiting
pub mod Cuts
pub mod Turns
pub mod Told
pub mod Passes
pub mod Disks
pub mod LawsLines
pub mod LawsSessions
pub mod Blanks
pub mod Moments
pub mod Plain
mod LogStores
pub mod SoundLogs
pub mod RowsServing
pub mod Running
pub mod Beside
pub mod Sources
pub mod Writing
pub mod Calls
mod RowsMaking
mod RowsRunning
mod RowsCalls
