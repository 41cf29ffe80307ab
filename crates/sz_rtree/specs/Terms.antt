-- The words that clauses of this crate are written in, each from the file that defines it.
pub use Rattle.std.specs.List.{HoldsAt}
pub use Rattle.std.specs.Prelude.{All, IfOk, IfSome, IsOk, IsTrue, List, MatchOption, OnErr, OnOk}
pub use Rattle.std.specs.Prelude.{[], length, max, slice_index_or, vec_capacity, vec_len, ℕ}
pub use Rattle.sz_cells.specs.declared.Bounds.{Bounds}
pub use Rattle.sz_rtree.specs.Laws.{NextHitsAreOne, OverlapsShareACell}
pub use Rattle.sz_rtree.specs.Levels.{Covers, HasRoom, IsInside, MissesUpTo, box_capacities}
pub use Rattle.sz_rtree.specs.Rectangles.{IsNextHit, Overlaps}
