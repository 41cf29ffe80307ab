-- The files of lemmas and of worked rows.
pub mod FieldsRead
pub mod ItemsRead
pub mod Lines
pub mod Walks
pub mod LayersRead
pub mod RecordsRead
pub mod FieldValues
pub mod Tables
pub mod TableRead
pub mod KernelsRead
pub mod LawsLines
mod RowsTold
mod RowsForms
mod RowsFields
mod RowsNames
mod RowsRules
mod RowsRefusals
mod RowsNodes
mod RowsLayers
mod RowsTexts
