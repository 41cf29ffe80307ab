-- The sets of the inputs before this one have no cell.
use Rattle.std.proofs.Common.{◌≡◌, map, false}
use Rattle.std.specs.Arc.{arc_value}
use Rattle.std.specs.List.{range_with_len}
use Rattle.sz_cells.specs.Cells.{cells_where}
use Rattle.sz_spec.specs.Values.{extent_at}
use Rattle.sz_merge.proofs.lineages.no_sets.Given as goal

abbrev pub invariant-loop-input : goal.invariant-loop-input
invariant-loop-input l = map (λ a. arc_value a) l.sets.items
    ≡ map (λ i. cells_where (extent_at l.ins i) (λ x. false)) (range_with_len 0 l.input)
