-- The worked rows of the program.
mod Rows
mod RowsWords
