-- Worked rows of the definitions: what each must refuse, and steps that keep the rule.
use Rattle.std.specs.Prelude.{◌≡◌, ℕ, zero, suc, ◌≤◌, [], ◌∷◌, Some, slice_index}
use Rattle.std.proofs.Common.{refl, arith, sym, ap}
use mathlib.Core.Option.{some, some-injective}
use lib.ListN.{get_elem?}
use Rattle.atomic_table.specs.Table.{keeps, stepped}
use Rattle.sz_claims.specs.declared.rule.View.{View}
use Rattle.sz_claims.specs.Claims.{AreDisjoint}
use Rattle.sz_claims.specs.Rule.{HasNoRepeats, times, Table, Own, IsKept, empty_view}
use Rattle.sz_claims.specs.Owners.{OneHas, NoneHas}
use Rattle.sz_claims.specs.Changes.{Keeps}
use Rattle.sz_claims.proofs.Counts.{mark-other}
use Rattle.sz_claims.proofs.Steps.{tries-keep}

-- a piece in both lists
piece-shared : AreDisjoint (1 ∷ 7 ∷ []) (7 ∷ []) → ⊥
piece-shared apart = apart 7 (1, omega arith, refl) (0, omega arith, refl)

-- a piece twice in one list
piece-twice : HasNoRepeats (7 ∷ 2 ∷ 7 ∷ []) → ⊥
piece-twice once = let two : times 7 (7 ∷ 2 ∷ 7 ∷ []) ≡ 2 = refl in absurd (omega (arith, two, once 7))

-- a view that has claimed 7
abbrev owner : View
owner = record { claimed = 7 ∷ []; met = []; found = Some 0; tries = 1; looks = 0; splits = 0; depth = 1 }

-- two views with one piece
owner-twice : OneHas 7 (owner ∷ owner ∷ []) → ⊥
owner-twice one =
    let first = one.others 0 owner refl (0, omega arith, refl) in
    let second = one.others 1 owner refl (0, omega arith, refl) in
    absurd (omega (arith, first, second))

-- a view with the piece
owner-there : NoneHas 7 (owner ∷ []) → ⊥
owner-there none = none 0 owner refl (0, omega arith, refl)

-- two free pieces, and one seat that was never split
abbrev free : Table
free = record { words = 0 ∷ 0 ∷ []; homes = []; views = empty_view 0 ∷ [] }

free-words : (piece : ℕ) → slice_index (0 ∷ 0 ∷ []) piece ≡ 0
free-words zero = refl
free-words (suc zero) = refl
free-words (suc (suc k)) = refl

free-kept : IsKept 2 free
free-kept = record {
  sized = refl;
  bit = λ piece. omega (arith, free-words piece);
  held = λ piece. sym (free-words piece);
  met = λ piece there. absurd (omega (arith, there));
  alone = λ id v at first never. refl;
}

-- the seat wins piece 1
keeps-won : (w : View) × (t : Table) × Keeps 2 0 (empty_view 0) w free t × (w.claimed ≡ 1 ∷ [])
keeps-won =
    let (w, a, valid, after, tried) =
    tries-keep 2 0 0 1 (empty_view 0, []) (omega arith) free free-kept refl refl (omega arith) in (
      w,
      stepped free 1 1 0 [] w a,
      record { before = free-kept; after = after; seat = refl; step = (1, 1, [], a, refl) },
      ap (λ (o : Own). o.0.claimed) (tried.win refl),
    )

-- no step takes a piece that no seat then has
keeps-nobody : Keeps 2 0 (empty_view 0) (empty_view 0) free (stepped free 1 1 0 [] (empty_view 0) keeps) → ⊥
keeps-nobody k = absurd (omega (arith, k.after.held 1))

-- one piece, which the first seat claimed before it was split, and the seat that was split off
abbrev first_seat : View
first_seat = record { claimed = 0 ∷ []; met = []; found = Some 0; tries = 1; looks = 0; splits = 1; depth = 0 }

abbrev taken : Table
taken = record { words = 1 ∷ []; homes = []; views = first_seat ∷ empty_view 1 ∷ [] }

taken-bit : (piece : ℕ) → slice_index (1 ∷ []) piece ≡ times piece (0 ∷ [])
taken-bit zero = refl
taken-bit (suc k) = omega (arith, mark-other 0 (suc k) (λ same. omega (arith, same)))

taken-small : (piece : ℕ) → slice_index (1 ∷ []) piece ≤ 1
taken-small zero = omega arith
taken-small (suc k) = omega arith

taken-split : (id : ℕ) (v : View) → get_elem? (first_seat ∷ empty_view 1 ∷ []) id ≡ some v → v.depth ≡ 0
    → v.splits ≡ 0 → ⊥
taken-split zero v at first never =
    let is = some-injective first_seat v at in omega (arith, never, ap (λ (x : View). x.splits) is)
taken-split (suc zero) v at first never =
    let is = some-injective (empty_view 1) v at in omega (arith, first, ap (λ (x : View). x.depth) is)
taken-split (suc (suc k)) v at first never = let e = at in cc

taken-kept : IsKept 1 taken
taken-kept = record {
  sized = refl;
  bit = taken-small;
  held = λ piece. omega (arith, taken-bit piece);
  met = λ piece there. absurd (omega (arith, there));
  alone = λ id v at first never. absurd (taken-split id v at first never);
}

-- that seat loses the piece
keeps-lost : (w : View) × (t : Table) × Keeps 1 1 (empty_view 1) w taken t × (w.claimed ≡ []) × (w.met ≡ 0 ∷ [])
keeps-lost =
    let (w, a, valid, after, tried) =
    tries-keep 1 0 1 0 (empty_view 1, []) (omega arith) taken taken-kept refl refl (omega arith) in
    let lost = (tried.loss (λ zero. absurd (omega (arith, zero)))).1 in (
      w,
      stepped taken 0 1 1 [] w a,
      record { before = taken-kept; after = after; seat = refl; step = (0, 1, [], a, refl) },
      ap (λ (o : Own). o.0.claimed) lost,
      ap (λ (o : Own). o.0.met) lost,
    )
