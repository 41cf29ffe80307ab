-- The lemmas: of shapes and sets first, then of runs, bitmaps, laws and windows.
pub mod Shapes
pub mod Sets
pub mod Rising
pub mod Runs
pub mod Merging
pub mod Rectangles
pub mod WordBits
pub mod WordRuns
pub mod Bitmaps
pub mod LawsOfSets
pub mod Windows
mod Rows
pub mod SetWords
