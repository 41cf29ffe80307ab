-- The family of operators: a file for each that needs more than a line in the tables of Shapes,
-- Evaluation, Lineage and Payloads.
pub mod Elementwise
pub mod Convolve
pub mod Folds
pub mod Lookup
pub mod Regions
pub mod Clean
