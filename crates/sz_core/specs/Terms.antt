-- The words that clauses of this crate are written in, each from the file that defines it.
pub use Rattle.std.specs.List.{flat_map, list_any, slice_get, slice_index_or}
pub use Rattle.std.specs.Option.{option_copied, option_map, option_map_or}
pub use Rattle.std.specs.Prelude.{All, IfOk, None, Ok, OnErr, OnOk, [], false, length, map}
pub use Rattle.std.specs.Prelude.{replicate, take, true, ℕ}
pub use Rattle.sz_cells.specs.Cells.{with_those}
pub use Rattle.sz_cells.specs.Extent.{index_of, size_of}
pub use Rattle.sz_cells.specs.Runs.{AreRunsFrom, indexes_of}
pub use Rattle.sz_spec.specs.Flows.{flow_fault}
pub use Rattle.sz_spec.specs.Sides.{extent_after, extent_before}
pub use Rattle.sz_core.specs.Events.{after_look, after_place, after_seal, change_at, last_state}
pub use Rattle.sz_core.specs.Events.{look_reply, next_state, next_step, place_reply, replies, reply}
pub use Rattle.sz_core.specs.Events.{seal_reply}
pub use Rattle.sz_core.specs.Images.{image_by}
pub use Rattle.sz_core.specs.Invariants.{CanGoOn}
pub use Rattle.sz_core.specs.Laws.{EndedAsksHoldTheComposedRelation, EndedAsksHoldTheComposition}
pub use Rattle.sz_core.specs.Laws.{LooksAreFromStoresThatWereSealed, NoEventChangesWhatIsToCome}
pub use Rattle.sz_core.specs.Laws.{OrderDoesNotMatter, PlacedPiecesAreNotReadBeforeTheSeal}
pub use Rattle.sz_core.specs.Laws.{StatesAreSound}
pub use Rattle.sz_core.specs.Links.{AreIndexesOf, HasPairs, IsSpelled, LeadInto, LiesWithin}
pub use Rattle.sz_core.specs.Links.{PairsLieWithin, cells_linked, far_cell, groups_lead, is_among}
pub use Rattle.sz_core.specs.Links.{is_linked_from, leads, near_cell, pair_leads, relation_of}
pub use Rattle.sz_core.specs.Starts.{are_queries, are_shelves, first_ask, first_shelves, is_shelf}
pub use Rattle.sz_core.specs.Starts.{shapes_fit, shapes_made, shelf_of, start}
pub use Rattle.sz_core.specs.States.{pairs_taken}
pub use Rattle.sz_core.specs.Steps.{step_of}
