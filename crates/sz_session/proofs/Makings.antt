-- The making of a log: what the status that it ends with tells.
--
-- The key idea: what is told of a status is found in its own case, and the others never come. Of a disk that is told,
-- a bar is one thing or nothing, so what barred it is what made the status.
use Rattle.std.proofs.Common.{◌≡◌, ℕ, List, true, Some, None, refl, sym, ◌∙◌, subst, inl, inr, true≢false}
use Rattle.std.specs.Prelude.{Option, ◌⊎◌}
use Rattle.std.proofs.lemmas.Option.{same_Some}
use Rattle.sz_outside.specs.Outside.{Rose}
use Rattle.sz_outside.specs.declared.stations.Station.{Ghosts}
use Rattle.sz_log.specs.declared.LogFault.{LogFault}
use Rattle.sz_log.specs.declared.LogFault.TheVariants as log
use Rattle.sz_feed.specs.Making.{HasBar, IsFree, IfBarred, IsSilent}
use Rattle.sz_session.specs.Statuses.{log_status, is_of_disk, MakesLog, AreCounted}
use Rattle.sz_session.specs.declared.serving.Status.{Status}
use Rattle.sz_session.specs.declared.serving.Status.TheVariants as status

-- ---- what a status tells

-- of the disk alone
pub init-silent : {X : Type 0} (T : Ghosts X) (s : Status) (a b : X) → MakesLog T s a b → is_of_disk s ≡ true
    → IsSilent T a b
init-silent {X} T status.DiskFault a b ends is = ends
init-silent {X} T status.NotALog a b ends is = ends.0
init-silent {X} T status.AlreadyALog a b ends is = ends.0
init-silent {X} T (status.BadLog at) a b ends is = absurd ends
init-silent {X} T _ a b ends is = absurd (true≢false (sym is))

-- ---- a disk that is barred, and one that is free

free-none : (o : Option (List ℕ)) (IsSuch : LogFault → Type 0) → HasBar o None → IfBarred o IsSuch
free-none None IsSuch free = tt
free-none (Some disk) IsSuch free = λ fault is. cc

bar-this : (o : Option (List ℕ)) (f : LogFault) (IsSuch : LogFault → Type 0) → HasBar o (Some f) → IsSuch f
    → IfBarred o IsSuch
bar-this None f IsSuch bar such = tt
bar-this (Some disk) f IsSuch bar such =
    λ fault is. subst IsSuch (same_Some f fault (sym bar ∙ is)) such

bar-each : (o : Option (List ℕ)) (IsSuch : LogFault → Type 0) → ((fault : LogFault) → IsSuch fault)
    → IfBarred o IsSuch
bar-each None IsSuch each = tt
bar-each (Some disk) IsSuch each = λ fault is. each fault

free-no_bar : (o : Option (List ℕ)) (f : LogFault) → IsFree o → HasBar o (Some f) → ⊥
free-no_bar None f free bar = free
free-no_bar (Some disk) f free bar = cc

-- the status by which a session ends where this keeps the disk from being made a log
abbrev pub StopsAt : Status → LogFault → Type 0
StopsAt s bar = (s ≡ log_status bar) ⊎ ((s ≡ status.DiskFault) ⊎ (s ≡ status.NoMemory))

pub init-barred : {X : Type 0} (T : Ghosts X) (s : Status) (a b : X) → MakesLog T s a b
    → IfBarred (T.disk a) (λ bar. StopsAt s bar)
init-barred {X} T status.Done a b ends = free-none (T.disk a) _ ends.0.free
init-barred {X} T status.SayFault a b ends = free-none (T.disk a) _ ends.0.free
init-barred {X} T status.DiskFault a b ends = bar-each (T.disk a) _ (λ bar. inr (inl refl))
init-barred {X} T status.NotALog a b ends =
    bar-this (T.disk a) log.NotALog (λ bar. StopsAt status.NotALog bar) ends.1.bar (inl refl)
init-barred {X} T status.AlreadyALog a b ends =
    bar-this (T.disk a) log.AlreadyALog (λ bar. StopsAt status.AlreadyALog bar) ends.1.bar (inl refl)
init-barred {X} T status.NoMemory a b ends = bar-each (T.disk a) _ (λ bar. inr (inr refl))
init-barred {X} T _ a b ends = absurd ends

-- a disk that is free is made a log, where no count rose
pub init-completes : {X : Type 0} (T : Ghosts X) (s : Status) (a b : X) → MakesLog T s a b
    → AreCounted T s 0 0 a b → IsFree (T.disk a) → (Rose (T.disk_faults a) (T.disk_faults b) → ⊥)
    → (Rose (T.say_faults a) (T.say_faults b) → ⊥)
    → (s ≡ status.Done) ⊎ (s ≡ status.NoMemory)
init-completes {X} T status.Done a b ends counted free no_disk no_say = inl refl
init-completes {X} T status.SayFault a b ends counted free no_disk no_say = absurd (no_say counted.1)
init-completes {X} T status.DiskFault a b ends counted free no_disk no_say = absurd (no_disk counted.2)
init-completes {X} T status.NotALog a b ends counted free no_disk no_say =
    absurd (free-no_bar (T.disk a) log.NotALog free ends.1.bar)
init-completes {X} T status.AlreadyALog a b ends counted free no_disk no_say =
    absurd (free-no_bar (T.disk a) log.AlreadyALog free ends.1.bar)
init-completes {X} T status.NoMemory a b ends counted free no_disk no_say = inr refl
init-completes {X} T _ a b ends counted free no_disk no_say = absurd ends
