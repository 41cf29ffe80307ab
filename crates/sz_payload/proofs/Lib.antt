-- The lemmas: of bytes that spell a set, of operators that have payloads, of asked cells, of the index of entries and
-- of files of their cells, of what entries stand for and looks add, of a store that grows, of short payloads, and of
-- bytes that are read.
mod SetWords
mod Operators
mod Meeting
mod Owning
mod Filing
mod Standing
mod Adding
mod Keeping
mod Short
mod Judged
mod Rows
