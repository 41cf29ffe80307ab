-- The lemmas of what is written and read: numbers, sets, names, and stores of either kind.
pub mod Spelling
pub mod Appending
pub mod Listing
pub mod Numbering
pub mod Spans
pub mod Names
pub mod FullStores
pub mod NumberingPay
pub mod Meeting
pub mod PayStores
pub mod ReadShapes
