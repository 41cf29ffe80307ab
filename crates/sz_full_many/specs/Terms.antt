-- The words that clauses of this crate are written in, each from the file that defines it.
pub use Rattle.std.specs.Arc.{arc_value}
pub use Rattle.std.specs.Prelude.{All, IfErr, IfOk, IfSome, IsSomeAnd, List, OnErr, OnOk, []}
pub use Rattle.std.specs.Prelude.{length, map, slice_index_or, sum_by, true, ℕ}
pub use Rattle.sz_cells.specs.Cells.{has, with_those}
pub use Rattle.sz_cells.specs.Laws.{IsInBounds}
pub use Rattle.sz_cells.specs.declared.Cell.{Cell}
pub use Rattle.sz_frame.specs.Stands.{full_stands}
pub use Rattle.sz_region.specs.FullBytes.{BeginsRegions, IsFullWord, Listed}
pub use Rattle.sz_region.specs.Stores.{SaysNoRegions}
pub use Rattle.sz_rtree.specs.Rectangles.{Rectangles}
pub use Rattle.sz_spec.specs.Sides.{extent_after, extent_before, far_side, image_between, image_in}
pub use Rattle.sz_spec.specs.Sides.{near_side}
pub use Rattle.sz_tables.specs.Apart.{AreOneOrApart, HaveInputsApart}
pub use Rattle.sz_tables.specs.Rows.{pairings, weight_of}
pub use Rattle.sz_tables.specs.Scans.{near_set, pairing_at}
pub use Rattle.sz_tables.specs.Sets.{IsRound}
pub use Rattle.sz_tables.specs.Stores.{IsPairOf, IsWithin, cells_in, most_given, no_room}
pub use Rattle.sz_tables.specs.Stores.{room_for_pairs}
pub use Rattle.sz_tables.specs.Tables.{AreDifferent}
pub use Rattle.sz_full_many.specs.Indexed.{AreRound, HasNext, tree_for, trees_for}
