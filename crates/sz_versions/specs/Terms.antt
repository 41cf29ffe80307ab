-- The words that clauses of this crate are written in, each from the file that defines it.
pub use Rattle.std.proofs.Props.{props}
pub use Rattle.std.specs.Arc.{arc_value}
pub use Rattle.std.specs.List.{AllZip, list_all, slice_get}
pub use Rattle.std.specs.Map.{values_of}
pub use Rattle.std.specs.Prelude.{All, IfNone, IfOk, IfSome, List, None, OnErr, OnOk, Some, []}
pub use Rattle.std.specs.Prelude.{false, find, length, map, option_map, slice_set, true, ℕ}
pub use Rattle.sz_bodies.specs.Fitting.{IsWholeFor, lineages}
pub use Rattle.sz_catalogue.specs.Holdings.{Holdings, arrays_of, version_numbered}
pub use Rattle.sz_catalogue.specs.Kept.{IsWorkflow}
pub use Rattle.sz_catalogue.specs.Refreshes.{array_refreshed, base_at, cells_affected, cells_set}
pub use Rattle.sz_catalogue.specs.Refreshes.{has_input, has_new_cell, version_refreshed, with_cells}
pub use Rattle.sz_catalogue.specs.Rules.{has_named_cell, has_no_array, has_no_version}
pub use Rattle.sz_catalogue.specs.Rules.{is_not_joined, is_out_of_range, judged, version_of}
pub use Rattle.sz_catalogue.specs.Starts.{bases_of, cell_named, path_start, step_start}
pub use Rattle.sz_catalogue.specs.Starts.{version_started}
pub use Rattle.sz_cells.specs.Cells.{named_in}
pub use Rattle.sz_cells.specs.Extent.{cell_in, holds, is_place}
pub use Rattle.sz_flow.specs.Executions.{FlowFits, execution_of, executions}
pub use Rattle.sz_formats.specs.Formats.{is_format}
pub use Rattle.sz_merge.specs.Laws.{paired_in}
pub use Rattle.sz_query.specs.Answers.{AreSteps, most_traced_of}
pub use Rattle.sz_query.specs.Views.{by_growth, by_map, by_store, by_trace, most_traced_by, view_of}
pub use Rattle.sz_recover.specs.Opened.{AreOfVersions, IsEntryOf}
pub use Rattle.sz_shelf.specs.Passes.{place_of, split_off, with_split}
pub use Rattle.sz_shelf.specs.Places.{ShelfPlace}
pub use Rattle.sz_shelf.specs.Tags.{StandsFor}
pub use Rattle.sz_spec.specs.Flows.{is_well_formed}
pub use Rattle.sz_spec.specs.Kinds.{kinds_of}
pub use Rattle.sz_spec.specs.Modes.{supports}
pub use Rattle.sz_spec.specs.Paths.{is_joined, is_there, source_of}
pub use Rattle.sz_spec.specs.Pieces.{pieces_of}
pub use Rattle.sz_versions.specs.Along.{IsTrailFor, search_along, view_in, views_along}
pub use Rattle.sz_versions.specs.Bodies.{IsSoundBody, store_in}
pub use Rattle.sz_versions.specs.Inquiries.{IsInquiryBy}
pub use Rattle.sz_versions.specs.Lending.{AreKeptStill, AreLent, IsKeptStill, IsLentTo}
pub use Rattle.sz_versions.specs.Lending.{IsTrailStill, lent, once_asked, once_viewed}
pub use Rattle.sz_versions.specs.Merging.{AreMergeable, AreMergedNodes, HasKinds, IsKeptUp}
pub use Rattle.sz_versions.specs.Merging.{IsMergeable, IsMergedIn, IsMergedNode, IsMergedStored}
pub use Rattle.sz_versions.specs.Merging.{SoundStoresTellTheKinds, kinds_by, kinds_in_kept}
pub use Rattle.sz_versions.specs.Merging.{kinds_in_nodes}
pub use Rattle.sz_versions.specs.Recalled.{SoundStoresAnswerTheRelation}
pub use Rattle.sz_versions.specs.Residents.{AreResidents, IsInService, IsResident, IsStill}
pub use Rattle.sz_versions.specs.Residents.{IsTrailBy, Resident, kept_of, logged_in, logged_of}
pub use Rattle.sz_versions.specs.Residents.{logged_under, replaced_in, residents_under, stored_in}
pub use Rattle.sz_versions.specs.Residents.{stored_of}
pub use Rattle.sz_versions.specs.Runs.{IsSoundVersion, executions_of}
pub use Rattle.sz_versions.specs.Searches.{IsAnswerTo}
pub use Rattle.sz_versions.specs.Stores.{AreKeptOf, AreListed, AreStoresFor, IsKeptOf, IsOwn}
pub use Rattle.sz_versions.specs.Stores.{IsShelfFor, IsTrailOf, has_stored, keeping_from}
pub use Rattle.sz_versions.specs.Stores.{keeping_of, read}
pub use Rattle.sz_versions.specs.Views.{are_there, view_by, view_kept}
