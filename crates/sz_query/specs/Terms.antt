-- The words that clauses of this crate are written in, each from the file that defines it.
pub use Rattle.std.specs.Arc.{arc_value}
pub use Rattle.std.specs.List.{AllZip}
pub use Rattle.std.specs.Prelude.{IfOk, IfSome, OnErr, OnOk, length, map, slice_index_or}
pub use Rattle.sz_cells.specs.Cells.{Cells, no_cells}
pub use Rattle.sz_cells.specs.Extent.{size_of}
pub use Rattle.sz_shelf.specs.Passes.{place_of}
pub use Rattle.sz_spec.specs.Lineage.{related}
pub use Rattle.sz_spec.specs.Sides.{far_side, image_in, near_side}
pub use Rattle.sz_spec.specs.Values.{extents_of}
pub use Rattle.sz_query.specs.Answers.{AreSteps, IsPath, answered, most_traced_of, traced_of}
pub use Rattle.sz_query.specs.Growths.{FoundOpen}
pub use Rattle.sz_query.specs.Laws.{AnswersAreTheComposedRelation, AnswersGoByParts, AskedViewsStay}
pub use Rattle.sz_query.specs.Laws.{JoinedPathsAreSteps, StepsHaveWhatViewsAsk}
pub use Rattle.sz_query.specs.Sides.{empty_sides}
pub use Rattle.sz_query.specs.Turns.{IsAsked, MayBeAsked}
pub use Rattle.sz_query.specs.Views.{IsUsable, image_by, most_traced_by, traced_by, used_of}
pub use Rattle.sz_query.specs.Views.{view_of, view_site}
pub use Rattle.sz_query.specs.declared.used.Used.TheVariants.{Traced}
