-- The lemmas on entries under keys, what is filed and what is one, sets and payloads by number, region pairs and
-- payload entries as rows of these, looks, counts of runs and cells, rectangles round sets, sets that are one or
-- apart, region pairs and entries that are read, entries that are apart, and names of region pairs.
pub mod Chained
pub mod Slices
pub mod Filing
pub mod Same
pub mod Numbered
pub mod Payloads
pub mod Listing
pub mod Longest
pub mod Rows
pub mod Taking
pub mod Words
pub mod Entries
pub mod Scanned
pub mod MetRuns
pub mod Counted
pub mod Rounding
pub mod FirstCells
pub mod ReadPairs
pub mod Placing
pub mod Parts
pub mod Listed
pub mod Counting
pub mod Ticking
