-- The words that clauses of this crate are written in, each from the file that defines it.
pub use Rattle.std.specs.Arc.{arc_value}
pub use Rattle.std.specs.List.{list_any, position_or_len}
pub use Rattle.std.specs.Prelude.{All, IfErr, IfOk, List, MatchOption, OnErr, OnOk, [], false}
pub use Rattle.std.specs.Prelude.{length, map, not, slice_index_or, take, true, ℕ}
pub use Rattle.sz_cells.specs.Cells.{has, with_those}
pub use Rattle.sz_spec.specs.Modes.{has_mapping, is_listed, is_stored, mode_of, number_of, supports}
pub use Rattle.sz_spec.specs.Pieces.{pieces_of}
pub use Rattle.sz_spec.specs.Shapes.{Site}
pub use Rattle.sz_spec.specs.Sides.{far_side, image_in, near_side}
pub use Rattle.sz_tables.specs.Stores.{no_room}
pub use Rattle.sz_store.specs.Checklists.{AreOneList, OtherOrdersStandForTheSame, emptied, joined}
pub use Rattle.sz_store.specs.Checklists.{kept_in, table_in, ticked_in}
pub use Rattle.sz_store.specs.Kept.{AreParts, Keep, empty_keep, entries, holding_for}
pub use Rattle.sz_store.specs.Kept.{holding_stands, is_placed, is_whole, keep_at, keep_with}
pub use Rattle.sz_store.specs.Kept.{missing, no_lineage, nothing_for, stored_in, with_lineage}
pub use Rattle.sz_store.specs.Kept.{with_part}
pub use Rattle.sz_store.specs.Laws.{FittingLineagesCanBePlaced, OneListOfStoresBegins}
pub use Rattle.sz_store.specs.Laws.{PlacedPiecesMakeTheRelation, WrittenStoresAreRead}
pub use Rattle.sz_store.specs.Stocks.{AreEntries, CanGrow, HasRoomFor, IsOfItsMode, IsTableOf}
pub use Rattle.sz_store.specs.Stocks.{StaysApart, capacities_of, empty_stock, keep_of, mode_in}
pub use Rattle.sz_store.specs.Stocks.{site_of, stock_of}
pub use Rattle.sz_store.specs.Words.{AreWordsOf, BeginEach, Begins, IsWordOf, NoneBegin, NoneBegins}
pub use Rattle.sz_store.specs.Words.{SaysNone}
