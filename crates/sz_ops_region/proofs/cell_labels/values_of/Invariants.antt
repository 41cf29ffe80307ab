-- The values so far are the words so far.
use Rattle.std.proofs.Common.{◌≡◌, Some, map, take}
use Rattle.std.specs.Prelude.{pos}
use Rattle.sz_ops_region.proofs.cell_labels.values_of.Given as goal

abbrev pub invariant-loop-word : goal.invariant-loop-word
invariant-loop-word l = l.cells.items ≡ map (λ w. Some (pos w)) (take l.word-index l.words)
