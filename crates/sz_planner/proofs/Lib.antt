-- The lemmas: which offers there are, what a fold over them finds, that the list that is read off is the best, and
-- a node more in the table and in the list; and rows that these compute.
pub mod Offered
pub mod Cheapest
pub mod Best
pub mod Tables
mod Rows
mod RowsChoices
