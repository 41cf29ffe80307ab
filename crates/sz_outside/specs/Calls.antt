-- What a call does to a station, by what its meanings were before it and are after it.
use Rattle.std.specs.Prelude.{◌≡◌, ℕ, List, Option}
use Rattle.sz_outside.specs.Disk.{Passes, Said}

-- The call says nothing, and counts no fault in saying.
abbrev pub KeepsOutput : {S : Type 0} → (S → Option (List ℕ)) → (S → ℕ) → S → S → Type 0
KeepsOutput said say_faults old new = (said new ≡ said old) × (say_faults new ≡ say_faults old)

-- Time passes, and a stop within the call leaves of the disk what the step makes of an image from
-- before it, and of what was said all.
abbrev pub Steps : {S : Type 0} → (S → ℕ) → (S → ℕ → List ℕ → List ℕ → Type 0)
    → (S → List ℕ → Type 0) → (S → Option (List ℕ)) → S → S → (List ℕ → List ℕ → Type 0) → Type 0
Steps moment left_since may_leave said old new step =
    Passes (moment old) (moment new) (left_since old) (left_since new) (may_leave old)
    (may_leave new) step (Said (said old))
