-- What the functions' proofs share, what follows of the definitions, and rows that these compute.
pub mod CodeShapes
pub mod CodeSquare
pub mod RowsArrays
pub mod RowsValues
pub mod RowsOperators
pub mod RowsLayers
pub mod RowsFlows
pub mod RowsPaths
pub mod RowsModes
pub mod RowsDependence
pub mod Components
pub mod OutputValues
pub mod Images
pub mod Composition
pub mod OutputShapes
pub mod CellPieces
pub mod FlowOutputs
pub mod FlowShapes
pub mod Ways
pub mod PayloadLineage
pub mod Dependence
pub mod Chains
pub mod FlowDependence
mod RowsKinds
mod RowsAffected
mod RowsSupports
