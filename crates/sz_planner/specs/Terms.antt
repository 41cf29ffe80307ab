-- The words that clauses of this crate are written in, each from the file that defines it.
pub use Rattle.std.specs.List.{find}
pub use Rattle.std.specs.Prelude.{All, IfOk, length, not, slice_index, true, ℕ}
pub use Rattle.sz_spec.specs.Weights.{is_kernel, is_zero, taps_of}
pub use Rattle.sz_planner.specs.Choices.{IsBestChoice, cost_of, degree_of, estimate, units_of}
pub use Rattle.sz_planner.specs.Choices.{units_over}
pub use Rattle.sz_planner.specs.Costs.{AreCostsOver, IsTable, attains, cheapest, list_within}
pub use Rattle.sz_planner.specs.Costs.{most_at_a_node, offer_over}
pub use Rattle.sz_planner.specs.Laws.{BestChoicesAreOne, ListsAreBestChoices}
pub use Rattle.sz_planner.specs.Offers.{offer_of, offers_among, offers_of}
