-- Worked rows of the crates that are tested here.
mod RowsRectangles
