-- What a call that only reads does to a station, by what its meanings were before it and are after
-- it.
use Rattle.std.specs.Prelude.{◌≡◌, ℕ, List, Option}
use Rattle.sz_outside.specs.Calls.{KeepsOutput, Steps}
use Rattle.sz_outside.specs.Disk.{Told, Same}

-- The disk is as before, and nothing is said.
abbrev pub Keeps : {S : Type 0} → (S → Option (List ℕ)) → (S → Option (List ℕ)) → (S → ℕ) → S → S
    → Type 0
Keeps disk said say_faults old new =
    (disk new ≡ disk old) × KeepsOutput said say_faults old new

-- Where the disk is told, time passes, and a stop within the call leaves what was left before it.
abbrev pub Stays : {S : Type 0} → (S → Option (List ℕ)) → (S → ℕ)
    → (S → ℕ → List ℕ → List ℕ → Type 0) → (S → List ℕ → Type 0) → (S → Option (List ℕ)) → S → S
    → Type 0
Stays disk moment left_since may_leave said old new =
    Told (disk old) (Steps moment left_since may_leave said old new Same)
