-- What follows of the bytes of a set of cells: they spell the set, and are its one spelling.
--
-- The key idea: a run is eight bytes, four for each end, and an end below 2^32 is read back from its four; so
-- the runs are read back one after another, and the longest runs of rising indexes spell these.
use Rattle.std.proofs.Common.{◌≡◌, ℕ, ◌+◌, ◌^◌, ◌≤◌, true, List, [], ◌∷◌, refl, ap}
use Rattle.std.proofs.Common.{◌∙◌, arith, lt-ltb}
use Rattle.std.specs.List.{flat_map}
use Rattle.std.specs.Int.{w32, from_be_bytes, to_be_bytes}
use Rattle.std.proofs.lemmas.Bool.{and_from, le-leb}
use Rattle.std.proofs.lemmas.Nat.{from_be_bytes-to_be_bytes_4}
use Rattle.std.proofs.lemmas.Slice.Eq.{bytes_eq-Decides}
use Rattle.sz_cells.specs.declared.Run.{Run}
use Rattle.sz_cells.specs.Extent.{Extent, size_of}
use Rattle.sz_cells.specs.Cells.{Cells}
use Rattle.sz_cells.specs.Rising.{AreRising}
use Rattle.sz_cells.specs.Runs.{indexes_of, runs_of, AreRunsFrom}
use Rattle.sz_cells.specs.SetBytes.{run_bytes, set_bytes}
use Rattle.sz_cells.specs.SetWords.{runs_spelled, set_spelled, are_rising, is_set_word}
use Rattle.sz_cells.proofs.Runs.{runs_of-longest, spelled-runs_of}

-- runs are read back from their bytes
pub runs-back : (least bound : ℕ) (runs : List Run) → bound ≤ 2 ^ 32 → AreRunsFrom least bound runs
    → runs_spelled (flat_map run_bytes runs) ≡ runs
runs-back least bound [] small runs = refl
runs-back least bound (r ∷ rest) small runs =
    let make : ℕ → ℕ → List Run → List Run =
    λ first last more. record { first = first; last = last } ∷ more in
    let first = from_be_bytes-to_be_bytes_4 r.first (omega arith) in
    let last = from_be_bytes-to_be_bytes_4 r.last (omega arith) in
    let later = runs-back (r.last + 2) bound rest small runs.3 in
    ap (λ (n : ℕ). make n (from_be_bytes w32 (to_be_bytes w32 r.last)) (runs_spelled (flat_map run_bytes rest)))
    first
    ∙ ap (λ (n : ℕ). make r.first n (runs_spelled (flat_map run_bytes rest))) last
    ∙ ap (make r.first r.last) later

-- a set of a shape is read back from its bytes
pub set-back : (e : Extent) (xs : List ℕ) → size_of e ≤ 2 ^ 32 → AreRising 0 (size_of e) xs
    → set_spelled e (set_bytes (record { extent = e; indexes = xs })) ≡ record { extent = e; indexes = xs }
set-back e xs small rises =
    let make : List ℕ → Cells = λ ys. record { extent = e; indexes = ys } in
    let read = runs-back 0 (size_of e) (runs_of xs) small (runs_of-longest 0 (size_of e) xs rises) in
    ap make (ap (flat_map indexes_of) read ∙ spelled-runs_of 0 (size_of e) xs rises)

-- the test that indexes rise is passed where they do
rising-test : (least bound : ℕ) (xs : List ℕ) → AreRising least bound xs
    → are_rising least bound xs ≡ true
rising-test least bound [] rises = refl
rising-test least bound (x ∷ xs) rises =
    and_from _ _ (and_from _ _ (le-leb least x rises.0) (lt-ltb x bound rises.1))
    (rising-test (x + 1) bound xs rises.2)

-- the bytes of a set are its one spelling
pub set-word : (e : Extent) (xs : List ℕ) → size_of e ≤ 2 ^ 32 → AreRising 0 (size_of e) xs
    → is_set_word e (set_bytes (record { extent = e; indexes = xs })) ≡ true
set-word e xs small rises =
    let set : Cells = record { extent = e; indexes = xs } in
    let back = set-back e xs small rises in
    and_from _ _
    (ap (λ (s : Cells). are_rising 0 (size_of e) s.indexes) back ∙ rising-test 0 (size_of e) xs rises)
    ((bytes_eq-Decides (set_bytes (set_spelled e (set_bytes set))) (set_bytes set)).1 (ap set_bytes back))
