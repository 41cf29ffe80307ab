-- Entries under keys, sets and payloads by number, region pairs and payload entries by the numbers
-- of these, what a store is seen as, rectangles round sets, sets that are one or apart, and which
-- region pairs or entries of a table were ticked.
pub mod Filed
pub mod Tables
pub mod Payloads
pub mod Rows
pub mod Placing
pub mod Entries
pub mod Listed
pub mod Listing
pub mod Stores
pub mod Scans
pub mod Sets
pub mod Apart
pub mod Checklists
mod Terms
