-- Rows worked by hand.
mod Rows
