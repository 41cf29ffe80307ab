-- A status is told by its exit number.
--
-- The key idea: each number is that of one status alone, but for the place of a bad group, which a table the other way
-- round gives back.
use Rattle.std.proofs.Common.{◌≡◌, ℕ, refl, sym, ap, ◌∙◌}
use Rattle.std.specs.Prelude.{◌==◌, if◌then◌else◌}
use Rattle.sz_session.specs.declared.serving.Status.{Status}
use Rattle.sz_session.specs.declared.serving.Status.TheVariants as status
use Rattle.sz_session.specs.Statuses.{status_number}

-- the place that a status tells, where it tells one
abbrev pub place_in : Status → ℕ
place_in (status.BadLog at) = at
place_in _ = 0

-- the status of an exit number, of a bad log at a place
abbrev pub status_at : ℕ → ℕ → Status
status_at at n = if n == 0 then status.Done else if n == 1 then status.Usage else if n == 2 then status.ReadFault
    else if n == 3 then status.SayFault else if n == 4 then status.DiskFault else if n == 5 then status.NotALog
    else if n == 6 then status.AlreadyALog else if n == 7 then status.BadLog at
    else if n == 8 then status.NoMemory else status.InputLimit

at-number : (s : Status) → status_at (place_in s) (status_number s) ≡ s
at-number status.Done = refl
at-number _ = refl

-- what ended with this number ended with the status of it
pub status-of : (s : Status) (e n : ℕ) → e ≡ status_number s → e ≡ n → s ≡ status_at (place_in s) n
status-of s e n is here = sym (at-number s) ∙ ap (status_at (place_in s)) (sym is ∙ here)
