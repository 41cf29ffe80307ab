-- What is kept of a node once it was lent, on both sides of what the definitions say.
--
-- The key idea: a pass that was lent has another number of splits, and nothing else that is kept has a number at all.
use Rattle.std.proofs.Common.{◌≡◌, ℕ, ◌+◌, [], ◌∷◌, Bool, true, false, refl, sym, ap, arith, true≢false}
use Rattle.sz_store.specs.Kept.{NodeLineage}
use Rattle.sz_shelf.specs.Places.{ShelfPlace}
use Rattle.sz_shelf.specs.Passes.{Onlooker, place_of}
use Rattle.sz_versions.specs.Stores.{Keeping, nothing, growing, whole, read}
use Rattle.sz_versions.specs.Lending.{lent, changed_at, IsKeptStill}

-- how many passes were split off what is kept
abbrev splits_of : Keeping → ℕ
splits_of nothing = 0
splits_of (growing z p) = p.splits
splits_of (whole k) = 0
splits_of (read k) = 0

abbrev is_growing : Keeping → Bool
is_growing nothing = false
is_growing (growing z p) = true
is_growing (whole k) = false
is_growing (read k) = false

-- ---- a pass that is lent counts

pub lent-counts : (z : ShelfPlace) (p : Onlooker)
    → lent 2 (growing z record p { splits = 3 }) ≡ growing z record p { splits = 5 }
lent-counts z p = refl

-- it is not as it was
pub lent-other : (z : ShelfPlace) (p : Onlooker) → lent 1 (growing z p) ≡ growing z p → ⊥
lent-other z p h = let same : p.splits + 1 ≡ p.splits = ap splits_of h in omega (arith, same)

-- nor is it lent once more than it counts
pub lent-twice : (z : ShelfPlace) (p : Onlooker) → lent 2 (growing z p) ≡ lent 1 (growing z p) → ⊥
lent-twice z p h = let same : p.splits + 2 ≡ p.splits + 1 = ap splits_of h in omega (arith, same)

-- ---- the rest stays

pub lent-nothing : lent 4 nothing ≡ nothing
lent-nothing = refl

pub lent-whole : (k : NodeLineage) → lent 4 (whole k) ≡ whole k
lent-whole k = refl

pub lent-read : (k : NodeLineage) → lent 4 (read k) ≡ read k
lent-read k = refl

-- ---- a place

pub changed-place : (z : ShelfPlace) (p : Onlooker) (k : NodeLineage)
    → changed_at (lent 1) 1 (growing z record p { splits = 0 } ∷ growing z record p { splits = 6 } ∷ whole k ∷ [])
    ≡ growing z record p { splits = 0 } ∷ growing z record p { splits = 7 } ∷ whole k ∷ []
changed-place z p k = refl

-- beside the list nothing is changed
pub changed-beside : (z : ShelfPlace) (p : Onlooker) → changed_at (lent 1) 1 (growing z p ∷ []) ≡ growing z p ∷ []
changed-beside z p = refl

-- ---- what stays but for its passes

pub still-pass : (z : ShelfPlace) (p q : Onlooker) → place_of q ≡ place_of p → IsKeptStill (growing z p) (growing z q)
still-pass z p q same = (q, refl, same)

-- a shelf that is gone
pub still-gone : (z : ShelfPlace) (p : Onlooker) → IsKeptStill (growing z p) nothing → ⊥
still-gone z p h = true≢false (sym (ap is_growing h.1))

-- stores that are made where there was a shelf
pub still-made : (z : ShelfPlace) (p : Onlooker) (k : NodeLineage) → IsKeptStill (growing z p) (whole k) → ⊥
still-made z p k h = true≢false (sym (ap is_growing h.1))

-- a shelf where there was none
pub still-new : (z : ShelfPlace) (p : Onlooker) → IsKeptStill nothing (growing z p) → ⊥
still-new z p h = true≢false (ap is_growing h)

-- stores that were read in place of some that were made
pub still-read : (k l : NodeLineage) → IsKeptStill (whole k) (read l) → ⊥
still-read k l h = true≢false (sym (ap made h)) where
  made : Keeping → Bool
  made nothing = false
  made (growing z p) = false
  made (whole k) = true
  made (read k) = false
