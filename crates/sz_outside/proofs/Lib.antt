-- The lemmas of this crate, and its worked rows.
mod Ledgers
mod Rows
mod RowsDisk
mod Scenes
mod StreamBytes
