-- The key idea: an index that stands before others begins a run or makes the next run longer. So where the runs rise
-- with gaps, the indexes rise.
use Rattle.std.proofs.Common.{◌≡◌, ℕ, ◌+◌, ◌<◌, ◌≤◌, ◌==◌, List, [], ◌∷◌, subst, arith}
use Rattle.std.proofs.lemmas.Bool.{cond_both, eqb-true}
use Rattle.sz_cells.specs.declared.Run.{Run}
use Rattle.sz_cells.specs.Cells.{Cells}
use Rattle.sz_cells.specs.Extent.{Extent, size_of}
use Rattle.sz_cells.specs.Rising.{AreRising}
use Rattle.sz_cells.specs.Runs.{runs_of, before_runs, AreRunsFrom}
use Rattle.sz_cells.specs.SetBytes.{IsSetOf}

-- the first run does not end before it begins
abbrev IsForward : List Run → Type 0
IsForward [] = Unit {0}
IsForward (r ∷ runs) = r.first ≤ r.last

before-forward : (k : ℕ) (runs : List Run) → IsForward runs → IsForward (before_runs k runs)
before-forward k [] forward = omega arith
before-forward k (r ∷ runs) forward =
    cond_both (r.first == k + 1) (record { first = k; last = r.last } ∷ runs)
    (record { first = k; last = k } ∷ r ∷ runs) IsForward
    (λ touch. let next = eqb-true r.first (k + 1) touch in omega arith) (λ apart. omega arith)

runs-forward : (xs : List ℕ) → IsForward (runs_of xs)
runs-forward [] = tt
runs-forward (k ∷ ks) = before-forward k (runs_of ks) (runs-forward ks)

-- the runs without the index that stands before them
runs-behind : (k least bound : ℕ) (runs : List Run) → IsForward runs → AreRunsFrom least bound (before_runs k runs)
    → (least ≤ k) × (k < bound) × AreRunsFrom (k + 1) bound runs
runs-behind k least bound [] forward h = (h.0, h.2, tt)
runs-behind k least bound (r ∷ runs) forward h =
    cond_both (r.first == k + 1) (record { first = k; last = r.last } ∷ runs)
    (record { first = k; last = k } ∷ r ∷ runs)
    (λ (rs : List Run). AreRunsFrom least bound rs
    → (least ≤ k) × (k < bound) × AreRunsFrom (k + 1) bound (r ∷ runs))
    (λ touch here. let next = eqb-true r.first (k + 1) touch in
    (here.0, omega arith, (omega arith, forward, here.2, here.3)))
    (λ apart here. (here.0, here.2, (omega (arith, here.3.0), here.3.1, here.3.2, here.3.3))) h

-- indexes whose longest runs rise with gaps rise
pub rising-from_runs : (least bound : ℕ) (xs : List ℕ) → AreRunsFrom least bound (runs_of xs)
    → AreRising least bound xs
rising-from_runs least bound [] h = tt
rising-from_runs least bound (k ∷ ks) h =
    let parts = runs-behind k least bound (runs_of ks) (runs-forward ks) h in
    (parts.0, parts.1, rising-from_runs (k + 1) bound ks parts.2)

-- a set whose longest runs rise with gaps within its shape is a set of the shape
pub set-of_runs : (e : Extent) (set : Cells) (runs : List Run) → set.extent ≡ e → runs ≡ runs_of set.indexes
    → AreRunsFrom 0 (size_of e) runs → IsSetOf e set
set-of_runs e set runs shape is longest = record {
  extent = shape;
  rising = rising-from_runs 0 (size_of e) set.indexes (subst (AreRunsFrom 0 (size_of e)) is longest);
}
