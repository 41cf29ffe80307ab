-- The text of a set's cells grows with its runs: a run's cells are its indexes one after another, and the
-- set's are those of its runs one after another. Each run that spells a set lies within its shape.
use Rattle.std.proofs.Common.{◌≡◌, ℕ, suc, zero, ◌+◌, ◌-◌, ◌<◌, ◌≤◌, List, [], ◌∷◌}
use Rattle.std.proofs.Common.{◌++◌, length, get_or, sym, ap, ◌∙◌, arith}
use Rattle.std.specs.List.{flat_map, range_with_len}
use Rattle.std.proofs.lemmas.Grind.{flat_map-append, common_steps}
use Rattle.sz_cells.specs.declared.Run.{Run}
use Rattle.sz_cells.specs.Runs.{AreRunsFrom}

pub range-more : (a n : ℕ) → range_with_len a (n + 1) ≡ range_with_len a n ++ (a + n) ∷ []
range-more a zero = let e : a + 0 ≡ a = omega arith in ap (λ (x : ℕ). x ∷ []) (sym e)
range-more a (suc n) = let e : a + suc n ≡ a + 1 + n = omega arith in let s : suc n + 1 ≡ suc (n + 1) =
    omega arith in
    ap (range_with_len a) s
    ∙ ap (λ (xs : List ℕ). a ∷ xs) (range-more (a + 1) n
    ∙ ap (λ (x : ℕ). range_with_len (a + 1) n ++ x ∷ []) (sym e))

-- one number more of a range, under flat_map
pub flat_map-range-more : {A : Type 0} (f : ℕ → List A) (xs : List A) (a k : ℕ) → a ≤ k
    → xs ++ flat_map f (range_with_len a (k + 1 - a)) ≡ (xs ++ flat_map f (range_with_len a (k - a))) ++ f k
flat_map-range-more {A} f xs a k le =
    let one : k + 1 - a ≡ k - a + 1 = omega arith in
    let here : a + (k - a) ≡ k = omega arith in
    let grown : range_with_len a (k + 1 - a) ≡ range_with_len a (k - a) ++ k ∷ [] =
    ap (range_with_len a) one ∙ range-more a (k - a)
    ∙ ap (λ (x : ℕ). range_with_len a (k - a) ++ x ∷ []) here in
    rw (grown, flat_map-append f (range_with_len a (k - a)) (k ∷ [])) (grind (arith, common_steps))

-- each run of some runs that rise below a bound
pub run-within : (least bound : ℕ) (runs : List Run) (i : ℕ) (d : Run) → AreRunsFrom least bound runs
    → i < length runs
    → ((get_or runs i d).first ≤ (get_or runs i d).last) × ((get_or runs i d).last < bound)
run-within least bound [] i d h lt = absurd (omega arith)
run-within least bound (r ∷ runs) zero d h lt = (h.1, h.2)
run-within least bound (r ∷ runs) (suc i) d h lt = run-within (r.last + 2) bound runs i d h.3 (omega arith)
