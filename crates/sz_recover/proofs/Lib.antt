-- The lemmas of the bodies, and rows that the definitions compute.
pub mod Acting
pub mod Opened
pub mod Entries
pub mod Comparing
pub mod Wrong
pub mod Made
pub mod Sites
pub mod WrongNodes
pub mod RowsLogs
pub mod Ending
pub mod Grown
pub mod Durable
pub mod Logged
pub mod Keyed
pub mod InOrder
pub mod InLogs
pub mod RightArrays
pub mod RightHeld
pub mod OneReading
pub mod Telling
pub mod HeldBodies
pub mod RowsSound
mod RowsGrowing
pub mod Ticked
