-- The lemmas of the bodies, and rows that the definitions compute.
pub mod NodesPut
pub mod OneWay
pub mod Written
pub mod Rows
pub mod HeadParts
pub mod Sequence
pub mod Whole
pub mod Shapes
