-- From the start on each index passes, and what was added is what passes below it. All cells of the sets are before the
-- idle indexes, of which none passes.
use Rattle.std.proofs.Common.{◌≡◌, ℕ, ◌<◌, ◌≤◌, ◌==◌, true, false}
use Rattle.std.specs.List.{list_any}
use Rattle.sz_cells.specs.Extent.{size_of}
use Rattle.sz_cells.specs.Cells.{with_those}
use Rattle.sz_refresh.specs.Names.{is_named}
use Rattle.sz_refresh.proofs.Names.{is_below}
use Rattle.sz_refresh.proofs.named.add_named.Given as goal

abbrev pub invariant-loop-index : goal.invariant-loop-index
invariant-loop-index l =
    let e = l.fn.to.extent in
    let test = is_named l.first l.old l.old_set l.new l.new_set in
    (l.size ≡ size_of e) × (l.start ≤ l.index)
    × ((k : ℕ) → l.start ≤ k → k < l.index → test k ≡ true)
    × (l.to ≡ with_those l.fn.to (is_below test l.start e))
    × ((k : ℕ) → l.idle ≤ k → k < l.index → test k ≡ false)
    × ((j : ℕ) → list_any (λ i. i == j) l.old_set.indexes ≡ true → j < l.idle)
    × ((j : ℕ) → list_any (λ i. i == j) l.new_set.indexes ≡ true → j < l.idle)
