-- Counts of calls and of faults.
use Rattle.std.specs.Prelude.{ℕ, ◌+◌, ◌-◌, ◌^◌, min, Bool, if◌then◌else◌}

-- The next number of a count that stands still at the end of its type.
abbrev pub count_after : ℕ → ℕ
count_after n = min (n + 1) (2 ^ 64 - 1)

-- A count of faults after a call that was done, or was not.
abbrev pub faults_after : ℕ → Bool → ℕ
faults_after faults is_done = if is_done then faults else count_after faults
