-- What follows of executions, how far a run of all nodes has come, and a row.
pub mod Executions
pub mod Nodes
pub mod RowsExecutions
