-- The lemmas: of entries by cells, of walks along the entries of a key, of what these lead to, and of what
-- one region pair more adds to them.
mod ByCell
mod Entries
mod FoundPairs
mod ImagesBetween
mod Growing
mod Counted
mod KeptRoom
