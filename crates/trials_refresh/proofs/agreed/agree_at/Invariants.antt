-- The arrays agree at each cell before the index.
use Rattle.std.proofs.Common.{◌≡◌, ℕ, ◌<◌, true, false}
use Rattle.sz_cells.specs.Extent.{cell_of}
use Rattle.sz_cells.specs.Cells.{has}
use Rattle.sz_spec.specs.Values.{value_at}
use Rattle.trials_refresh.proofs.agreed.agree_at.Given as goal

abbrev pub invariant-loop-index : goal.invariant-loop-index
invariant-loop-index l = (k : ℕ) → k < l.index
    → (l.named ≡ true → has l.changed (cell_of l.shape k) ≡ false)
    → value_at l.one (cell_of l.shape k) ≡ value_at l.other (cell_of l.shape k)
