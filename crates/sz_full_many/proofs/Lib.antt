-- The lemmas: of rectangles round sets, of looks, and of trees beside a table.
mod Rounded
mod Looked
mod Indexing
mod Filing
