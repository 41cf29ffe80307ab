-- The key idea: a loop over a list reads the element at i and writes a new one there. What the new one has
-- of the old carries a fact over from the list before to the list after.
use Rattle.std.proofs.Common.{ℕ, ◌+◌, ◌<◌, ◌≢◌, List, length, set, get_or, All, arith, length-set}
use Rattle.std.proofs.Common.{get_or-set_other}
use Rattle.std.specs.List.{AllWithin}
use Rattle.std.proofs.lemmas.List.Elements.{All-set}

-- a fact that the new element has of the old stays with every element
pub All-carried : {X : Type 0} (P : X → Type 0) (xs : List X) (i : ℕ) (x y : X) → i < length xs
    → (P (get_or xs i x) → P y) → All P xs → All P (set xs i y)
All-carried P xs i x y lt step all = All-set P xs i y (step (all i x lt)) all

-- a write at i leaves what comes after i
pub rest_after_set : {X : Type 0} (P : X → Type 0) (xs : List X) (i : ℕ) (y : X) → AllWithin P xs i (length xs)
    → AllWithin P (set xs i y) (i + 1) (length (set xs i y))
rest_after_set P xs i y all k d low high =
    let other : k ≢ i = omega arith in
    rw (get_or-set_other xs i k y d other) (all k d (omega arith) (rw (length-set xs i y) at high))
