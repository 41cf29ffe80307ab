-- Where a look finds region pairs: sets filed by their cells, and rows by the numbers of their
-- sets.
pub mod ByCells
mod Terms
