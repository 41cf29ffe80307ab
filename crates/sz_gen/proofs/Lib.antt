-- The lemmas of the session's text, and rows worked by hand.
pub mod DrawSteps
pub mod ListSteps
pub mod LineSteps
pub mod Rows
