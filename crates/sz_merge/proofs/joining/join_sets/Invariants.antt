-- The sets of the inputs before this one are joined.
use Rattle.std.proofs.Common.{◌≡◌, map}
use Rattle.std.specs.Arc.{arc_value}
use Rattle.std.specs.List.{range_with_len}
use Rattle.sz_cells.specs.Cells.{union_of}
use Rattle.sz_tables.specs.Rows.{set_at}
use Rattle.sz_merge.proofs.joining.join_sets.Given as goal

abbrev pub invariant-loop-input : goal.invariant-loop-input
invariant-loop-input l = map (λ a. arc_value a) l.both.items
    ≡ map (λ i. union_of (set_at (map (λ a. arc_value a) l.sets) i) (set_at (map (λ a. arc_value a) l.more) i))
    (range_with_len 0 l.input)
