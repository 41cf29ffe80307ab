-- The files of lemmas.
pub mod Asks
pub mod Taking
pub mod Crossing
pub mod Stops
pub mod SessionRows
pub mod States
pub mod Carrying
pub mod Seen
pub mod Sought
pub mod Logged
pub mod Lasting
pub mod Appending
pub mod Faults
pub mod RowsLogged
pub mod RowsCarrying
pub mod RowsFaults
