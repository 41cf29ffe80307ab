-- The rows, crate by crate.
mod RowsClaims
mod RowsShelf
mod RowsQuery
mod RowsRecover
