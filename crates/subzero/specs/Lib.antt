-- The definitions that the program's contracts cite.
pub mod Endings
pub mod Places
pub mod Words
