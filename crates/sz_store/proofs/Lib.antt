-- The lemmas: of stores with a lineage more, of pieces that are placed, of what lineages placed one after another stand
-- for, of what stays true of the stores, of bytes one after another, of lists of stores, and of what is kept in another
-- order.
pub mod Parting
pub mod Placed
pub mod Lineages
pub mod Placing
pub mod Reading
pub mod Listed
pub mod Orders
