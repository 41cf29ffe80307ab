-- The words that clauses of this crate are written in, each from the file that defines it.
pub use Rattle.std.specs.Arc.{arc_value}
pub use Rattle.std.specs.List.{find, list_all}
pub use Rattle.std.specs.Prelude.{All, Err, IfOk, None, Ok, Some, length, map, true}
pub use Rattle.std.specs.Result.{result_err, result_map_both}
pub use Rattle.sz_cells.specs.Cells.{with_those}
pub use Rattle.sz_cells.specs.Extent.{flat, height_of, holds, is_layered, size_of}
pub use Rattle.sz_cells.specs.declared.Cell.{Cell}
pub use Rattle.sz_spec.specs.FlowShapes.{output_shapes, source_shape}
pub use Rattle.sz_spec.specs.Flows.{flow_fault, is_source, is_well_formed, node_fault, nodes_fault}
pub use Rattle.sz_spec.specs.Flows.{source_fault}
pub use Rattle.sz_spec.specs.LawsDependence.{ComposedCellsAreLedTo, RelationsDependOnEitherRelation}
pub use Rattle.sz_spec.specs.LawsDependence.{RelationsDependOnRelatedCells}
pub use Rattle.sz_spec.specs.LawsDependence.{ValuesDependOnCellsReachedInEither}
pub use Rattle.sz_spec.specs.LawsDependence.{ValuesDependOnEitherRelation}
pub use Rattle.sz_spec.specs.LawsDependence.{ValuesDependOnReachedCells, ValuesDependOnRelatedCells}
pub use Rattle.sz_spec.specs.LawsFlows.{EachNodeHasAnOutput, OutputsAreThoseOfTheirNodes}
pub use Rattle.sz_spec.specs.LawsFlows.{ShapesFoundAreThoseOfTheOutputs, WellFormedFlowsAreRight}
pub use Rattle.sz_spec.specs.LawsImages.{ImagesBackAgree, ImagesBackAreTheRelatedCells}
pub use Rattle.sz_spec.specs.LawsImages.{ImagesBackOfUnions, ImagesBackSayThereIs}
pub use Rattle.sz_spec.specs.LawsImages.{ImagesForwardAgree, ImagesForwardAreTheRelatedCells}
pub use Rattle.sz_spec.specs.LawsImages.{ImagesForwardOfUnions, ImagesForwardSayThereIs}
pub use Rattle.sz_spec.specs.LawsImages.{PathsComposeByTheirParts}
pub use Rattle.sz_spec.specs.LawsLineage.{DefaultsAreTheRelation, MappingsAreTheRelation}
pub use Rattle.sz_spec.specs.LawsLineage.{PayloadsAreLawful, PayloadsAreTheRelation}
pub use Rattle.sz_spec.specs.LawsLineage.{RelatedCellsAreOfInputs}
pub use Rattle.sz_spec.specs.LawsModes.{ListedStrategiesAreInTheList, MappedOperatorsSupport}
pub use Rattle.sz_spec.specs.LawsModes.{MappedOperatorsSupportForward, NumbersTellStrategiesApart}
pub use Rattle.sz_spec.specs.LawsModes.{OrdersHaveEachStrategyOnce, OtherOperatorsSupport}
pub use Rattle.sz_spec.specs.LawsModes.{OtherOperatorsSupportForward, ThreeHaveNoMapping}
pub use Rattle.sz_spec.specs.LawsModes.{WaysAreInTheList, WaysAreTheFirst}
pub use Rattle.sz_spec.specs.LawsRegions.{ComponentsAreClosed, ComponentsAreWhole}
pub use Rattle.sz_spec.specs.LawsRegions.{ConnectedCellsAreHigh, ConnectedCellsAreLedTo}
pub use Rattle.sz_spec.specs.LawsRegions.{ConnectedCellsHaveOneComponent, ConnectionGoesByParts}
pub use Rattle.sz_spec.specs.LawsRegions.{ConnectionIsSymmetric, HighCellsAreConnectedToThemselves}
pub use Rattle.sz_spec.specs.LawsRegions.{HighCellsAreLabelledByTheLeast, OtherCellsAreLabelledZero}
pub use Rattle.sz_spec.specs.LawsShapes.{EachCellIsInOnePiece, OutputsAreShapes, PiecesAreFew}
pub use Rattle.sz_spec.specs.LawsShapes.{PiecesAreOfTheShape}
pub use Rattle.sz_spec.specs.LawsValues.{I64sAreValues, OtherNumbersAreEmpty}
pub use Rattle.sz_spec.specs.LawsValues.{OutputsHaveAValueForEachCell, OutputsHoldTheirValues}
pub use Rattle.sz_spec.specs.LawsValues.{SumsOfNumbersAreTotals, SumsWithAnEmptyOneAreEmpty}
pub use Rattle.sz_spec.specs.Lineage.{mapped}
pub use Rattle.sz_spec.specs.Modes.{has_mapping, has_mode, is_listed, is_stored, mode_of, order_of}
pub use Rattle.sz_spec.specs.Modes.{supports, way}
pub use Rattle.sz_spec.specs.Operators.Clean.{is_in_square}
pub use Rattle.sz_spec.specs.Operators.Folds.{blocks_over}
pub use Rattle.sz_spec.specs.Payloads.{is_payload, mapped_by_payload}
pub use Rattle.sz_spec.specs.Pieces.{pieces_of}
pub use Rattle.sz_spec.specs.Rectangles.{is_in_rectangle, is_in_row}
pub use Rattle.sz_spec.specs.Shapes.{Site, are_equal, arity, each_layer, has_right_parameters}
pub use Rattle.sz_spec.specs.Shapes.{shape_of, site_of, sliced}
pub use Rattle.sz_spec.specs.Values.{extent_at, value_at}
pub use Rattle.sz_spec.specs.Weights.{is_kernel, is_odd_side, is_weight}
