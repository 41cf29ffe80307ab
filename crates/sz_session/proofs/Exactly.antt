-- The modes that open a log: what their status tells of the disk, and the disk of the status.
--
-- The key idea: that a disk does not begin as a log, that its first bad group stands at a place, and that it is a
-- well-made log, are told by its bytes, and exclude each other; nor does the first bad group stand at two places. So
-- each has statuses of its own, but for those of a call that failed and of want of memory.
use Rattle.std.proofs.Common.{◌≡◌, ℕ, List, Some, None, refl, sym, ap, ◌∙◌, subst, inl, inr}
use Rattle.std.proofs.Common.{arith, true≢false}
use Rattle.std.specs.Prelude.{Option, ◌⊎◌}
use Rattle.sz_outside.specs.Outside.{Rose}
use Rattle.sz_outside.specs.declared.stations.Station.{Ghosts}
use Rattle.sz_catalogue.specs.Holdings.{Holdings}
use Rattle.sz_recover.specs.Logs.{Kept, IsMade, IsNoLog, IsBroken}
use Rattle.sz_recover.specs.OneReading.{WellMadeLogsAreNotBad, LogsAreFirstBadAtOnePlace}
use Rattle.sz_feed.specs.Serving.{IsPastLimit, IsWithinLimit}
use Rattle.sz_commands.specs.States.{SessionState, LogPlace}
use Rattle.sz_feed.specs.Running.{state_of_log}
use Rattle.sz_session.specs.Continuing.{IsUnopened, EndsOnLog}
use Rattle.sz_session.specs.Checking.{IsLineOf, IsUnlike, IfNoLog, IfBadLog, IsWellMadeLog, BeginsAsLog}
use Rattle.sz_session.specs.Raising.{HasRaised, RaisesLog}
use Rattle.sz_session.specs.Statuses.{ChecksLog, EndsLines, AreCounted}
use Rattle.sz_session.specs.declared.serving.Status.{Status}
use Rattle.sz_session.specs.declared.serving.Status.TheVariants as status
use Rattle.sz_session.proofs.Ends.{limit-passed}
use Rattle.sz_session.proofs.Checkings.{StopsUnlike, StopsBegun, begun-log, check-tells}
use Rattle.sz_session.proofs.Checkings.{no_log-made, no_log-broken, no_log-each}

-- ---- a well-made log

-- it begins as a log
made-begun : (o : Option (List ℕ)) → IsWellMadeLog o → BeginsAsLog o
made-begun None made = made
made-begun (Some disk) made = made.3.header

made-begins : (o : Option (List ℕ)) → IsWellMadeLog o → IsNoLog o → ⊥
made-begins o made other = begun-log o (made-begun o made) other

-- and is bad nowhere
made-whole : WellMadeLogsAreNotBad → (o : Option (List ℕ)) (at : ℕ) → IsWellMadeLog o → IsBroken o at → ⊥
made-whole law None at made broken = made
made-whole law (Some disk) at made broken = law disk made.0.gate at made.0.format made.1 made.2 made.3 broken

-- ---- a log that is bad at a place

-- the status by which the opening of such a one ends
abbrev pub StopsBroken : Status → ℕ → Type 0
StopsBroken s at = (s ≡ status.BadLog at) ⊎ ((s ≡ status.DiskFault) ⊎ (s ≡ status.NoMemory))

-- a well-made log is none of these
broken-made : WellMadeLogsAreNotBad → (o : Option (List ℕ)) (at : LogPlace) (c : Holdings) (kept : List Kept)
    (Claim : ℕ → Type 0) → IsMade o at.gate at.format c kept → IfBadLog o Claim
broken-made law None at c kept Claim made = tt
broken-made law (Some disk) at c kept Claim made =
    λ place bad. absurd (law disk at.gate place at.format c kept made bad)

broken-line : WellMadeLogsAreNotBad → (o : Option (List ℕ)) (line : List ℕ) (Claim : ℕ → Type 0) → IsLineOf o line
    → IfBadLog o Claim
broken-line law o line Claim is =
    broken-made law o (record { gate = is.at; format = is.format }) is.c is.kept Claim is.made

-- nor is a disk that does not begin as a log
broken-no_log : (o : Option (List ℕ)) (Claim : ℕ → Type 0) → IsNoLog o → IfBadLog o Claim
broken-no_log None Claim other = tt
broken-no_log (Some disk) Claim other = λ place bad. absurd (true≢false (sym bad.before.header ∙ other))

-- one that is bad at a place is bad there alone
broken-there : LogsAreFirstBadAtOnePlace → (o : Option (List ℕ)) (at : ℕ) → IsBroken o at
    → IfBadLog o (λ place. StopsBroken (status.BadLog at) place)
broken-there law None at broken = tt
broken-there law (Some disk) at broken =
    λ place bad. inl (ap (λ (n : ℕ). status.BadLog n) (sym (law disk at place broken bad)))

-- what is so of each place
broken-each : (o : Option (List ℕ)) (Claim : ℕ → Type 0) → ((at : ℕ) → Claim at) → IfBadLog o Claim
broken-each None Claim is = tt
broken-each (Some disk) Claim is = λ place bad. is place

-- ---- a disk that does not begin as a log

pub run-no_log : {X : Type 0} (T : Ghosts X) (limit : ℕ) (left rest : Option (List ℕ)) (r r' : ℕ) (x y : X)
    → EndsOnLog T status.NotALog limit left rest x y → AreCounted T status.NotALog r r' x y → IsUnlike T x y
run-no_log {X} T limit left rest r r' x y (inl none) counted = (none.why, counted.2)
run-no_log {X} T limit left rest r r' x y (inr one) counted = absurd one.ends

unopened-unlike : (o : Option (List ℕ)) (s : Status) → IsUnopened o s → IfNoLog o (StopsUnlike s)
unopened-unlike o status.DiskFault why = no_log-each o _ (inr (inl refl))
unopened-unlike o status.NotALog why = no_log-each o _ (inl refl)
unopened-unlike o (status.BadLog at) why = no_log-broken o at _ why
unopened-unlike o status.NoMemory why = no_log-each o _ (inr (inr refl))
unopened-unlike o _ why = absurd why

pub run-unlike : {X : Type 0} (T : Ghosts X) (s : Status) (limit : ℕ) (left rest : Option (List ℕ)) (x y : X)
    → EndsOnLog T s limit left rest x y → IfNoLog (T.disk x) (StopsUnlike s)
run-unlike {X} T s limit left rest x y (inl none) = unopened-unlike (T.disk x) s none.why
run-unlike {X} T s limit left rest x y (inr one) =
    no_log-made (T.disk x) one.at.gate one.at.format one.c one.kept _ one.made

-- ---- a log that is bad at a place has the status of that place

unopened-broken : LogsAreFirstBadAtOnePlace → (o : Option (List ℕ)) (s : Status) → IsUnopened o s
    → IfBadLog o (λ at. StopsBroken s at)
unopened-broken one o status.DiskFault why = broken-each o _ (λ at. inr (inl refl))
unopened-broken one o status.NotALog why = broken-no_log o _ why
unopened-broken one o (status.BadLog at) why = broken-there one o at why
unopened-broken one o status.NoMemory why = broken-each o _ (λ at. inr (inr refl))
unopened-broken one o _ why = absurd why

pub run-broken : WellMadeLogsAreNotBad → LogsAreFirstBadAtOnePlace → {X : Type 0} (T : Ghosts X) (s : Status)
    (limit : ℕ)
    (left rest : Option (List ℕ)) (x y : X) → EndsOnLog T s limit left rest x y
    → IfBadLog (T.disk x) (λ at. StopsBroken s at)
run-broken whole place {X} T s limit left rest x y (inl none) = unopened-broken place (T.disk x) s none.why
run-broken whole place {X} T s limit left rest x y (inr one) =
    broken-made whole (T.disk x) one.at one.c one.kept (λ at. StopsBroken s at) one.made

pub check-broken : WellMadeLogsAreNotBad → LogsAreFirstBadAtOnePlace → {X : Type 0} (T : Ghosts X) (s : Status)
    (x y : X)
    → ChecksLog T s x y → IfBadLog (T.disk x) (λ at. StopsBroken s at)
check-broken whole place {X} T status.Done x y ends = broken-line whole (T.disk x) ends.0 _ ends.1
check-broken whole place {X} T status.SayFault x y ends = broken-line whole (T.disk x) ends.0 _ ends.1
check-broken whole place {X} T status.DiskFault x y ends = broken-each (T.disk x) _ (λ at. inr (inl refl))
check-broken whole place {X} T status.NotALog x y ends = broken-no_log (T.disk x) _ ends.1.0
check-broken whole place {X} T (status.BadLog at) x y ends = broken-there place (T.disk x) at ends.1.0
check-broken whole place {X} T status.NoMemory x y ends = broken-each (T.disk x) _ (λ at. inr (inr refl))
check-broken whole place {X} T _ x y ends = absurd ends

-- a log that was raised is bad nowhere
broken-raised : WellMadeLogsAreNotBad → {X : Type 0} (T : Ghosts X) (x y : X) (Claim : ℕ → Type 0) → HasRaised T x y
    → IfBadLog (T.disk x) Claim
broken-raised law {X} T x y Claim one = broken-made law (T.disk x) one.at one.c one.kept Claim one.made

pub upgrade-broken : WellMadeLogsAreNotBad → LogsAreFirstBadAtOnePlace → {X : Type 0} (T : Ghosts X) (s : Status)
    (x y : X)
    → RaisesLog T s x y → IfBadLog (T.disk x) (λ at. StopsBroken s at)
upgrade-broken whole place {X} T status.Done x y ends = broken-raised whole T x y _ ends.0
upgrade-broken whole place {X} T status.SayFault x y ends = broken-raised whole T x y _ ends.0
upgrade-broken whole place {X} T status.DiskFault x y ends = broken-each (T.disk x) _ (λ at. inr (inl refl))
upgrade-broken whole place {X} T status.NotALog x y ends = broken-no_log (T.disk x) _ ends.1.0
upgrade-broken whole place {X} T (status.BadLog at) x y ends = broken-there place (T.disk x) at ends.1.0
upgrade-broken whole place {X} T status.NoMemory x y ends = broken-each (T.disk x) _ (λ at. inr (inr refl))
upgrade-broken whole place {X} T _ x y ends = absurd ends

-- ---- a well-made log, where no count rose

-- its check is done, since no group of it is bad
pub check-completes : WellMadeLogsAreNotBad → {X : Type 0} (T : Ghosts X) (s : Status) (x y : X) → ChecksLog T s x y
    → AreCounted T s 0 0 x y → IsWellMadeLog (T.disk x) → (Rose (T.disk_faults x) (T.disk_faults y) → ⊥)
    → (Rose (T.say_faults x) (T.say_faults y) → ⊥) → (s ≡ status.Done) ⊎ (s ≡ status.NoMemory)
check-completes whole {X} T s x y ends counted made no_disk no_say =
    by (check-tells T s x y ends counted (made-begun (T.disk x) made) no_disk no_say) where
      by : StopsBegun s → (s ≡ status.Done) ⊎ (s ≡ status.NoMemory)
      by (inl is) = inl is
      by (inr (inl is)) = inr is
      by (inr (inr (at, is))) =
          absurd (made-whole whole (T.disk x) at made (subst (λ (z : Status). ChecksLog T z x y) is ends).1.0)

-- and so is its raising
pub upgrade-completes : WellMadeLogsAreNotBad → {X : Type 0} (T : Ghosts X) (s : Status) (x y : X) → RaisesLog T s x y
    → AreCounted T s 0 0 x y → IsWellMadeLog (T.disk x) → (Rose (T.disk_faults x) (T.disk_faults y) → ⊥)
    → (Rose (T.say_faults x) (T.say_faults y) → ⊥) → (s ≡ status.Done) ⊎ (s ≡ status.NoMemory)
upgrade-completes whole {X} T status.Done x y ends counted made no_disk no_say = inl refl
upgrade-completes whole {X} T status.SayFault x y ends counted made no_disk no_say = absurd (no_say counted.1)
upgrade-completes whole {X} T status.DiskFault x y ends counted made no_disk no_say = absurd (no_disk counted.2)
upgrade-completes whole {X} T status.NotALog x y ends counted made no_disk no_say =
    absurd (made-begins (T.disk x) made ends.1.0)
upgrade-completes whole {X} T (status.BadLog at) x y ends counted made no_disk no_say =
    absurd (made-whole whole (T.disk x) at made ends.1.0)
upgrade-completes whole {X} T status.NoMemory x y ends counted made no_disk no_say = inr refl
upgrade-completes whole {X} T _ x y ends counted made no_disk no_say = absurd ends

-- it is opened, unless there was no memory
unopened-completes : WellMadeLogsAreNotBad → {X : Type 0} (T : Ghosts X) (s : Status) (r r' : ℕ) (x y : X)
    → IsUnopened (T.disk x) s → AreCounted T s r r' x y → IsWellMadeLog (T.disk x)
    → (Rose (T.disk_faults x) (T.disk_faults y) → ⊥) → (s ≡ status.Done) ⊎ (s ≡ status.NoMemory)
unopened-completes whole {X} T status.DiskFault r r' x y why counted made no_disk = absurd (no_disk counted.2)
unopened-completes whole {X} T status.NotALog r r' x y why counted made no_disk =
    absurd (made-begins (T.disk x) made why)
unopened-completes whole {X} T (status.BadLog at) r r' x y why counted made no_disk =
    absurd (made-whole whole (T.disk x) at made why)
unopened-completes whole {X} T status.NoMemory r r' x y why counted made no_disk = inr refl
unopened-completes whole {X} T _ r r' x y why counted made no_disk = absurd why

-- a source within the limit is not past it
within-past : (limit : ℕ) (o : Option (List ℕ)) → IsWithinLimit limit o → IsPastLimit limit o → ⊥
within-past limit None within past = within
within-past limit (Some bytes) within past = omega (arith, within, past)

-- and a session on it is done, unless there was none
opened-completes : {X : Type 0} (T : Ghosts X) (z : SessionState) (s : Status) (limit : ℕ) (left rest : Option (List ℕ))
    (r r' : ℕ) (x y : X) → EndsLines z s limit left rest (T.said x) (T.said y) → AreCounted T s r r' x y
    → IsWithinLimit limit left → (Rose r r' → ⊥) → (Rose (T.say_faults x) (T.say_faults y) → ⊥)
    → (Rose (T.disk_faults x) (T.disk_faults y) → ⊥) → (s ≡ status.Done) ⊎ (s ≡ status.NoMemory)
opened-completes {X} T z status.Done limit left rest r r' x y ends counted within no_read no_say no_disk = inl refl
opened-completes {X} T z status.ReadFault limit left rest r r' x y ends counted within no_read no_say no_disk =
    absurd (no_read counted.0)
opened-completes {X} T z status.SayFault limit left rest r r' x y ends counted within no_read no_say no_disk =
    absurd (no_say counted.1)
opened-completes {X} T z status.DiskFault limit left rest r r' x y ends counted within no_read no_say no_disk =
    absurd (no_disk counted.2)
opened-completes {X} T z status.NoMemory limit left rest r r' x y ends counted within no_read no_say no_disk =
    inr refl
opened-completes {X} T z status.InputLimit limit left rest r r' x y ends counted within no_read no_say no_disk =
    absurd (within-past limit left within (limit-passed z limit left rest (T.said x) (T.said y) ends))
opened-completes {X} T z _ limit left rest r r' x y ends counted within no_read no_say no_disk =
    absurd ends

pub run-completes : WellMadeLogsAreNotBad → {X : Type 0} (T : Ghosts X) (s : Status) (limit : ℕ)
    (left rest : Option (List ℕ)) (r r' : ℕ) (x y : X) → EndsOnLog T s limit left rest x y
    → AreCounted T s r r' x y → IsWellMadeLog (T.disk x) → IsWithinLimit limit left → (Rose r r' → ⊥)
    → (Rose (T.say_faults x) (T.say_faults y) → ⊥) → (Rose (T.disk_faults x) (T.disk_faults y) → ⊥)
    → (s ≡ status.Done) ⊎ (s ≡ status.NoMemory)
run-completes whole {X} T s limit left rest r r' x y (inl none) counted made within no_read no_say no_disk =
    unopened-completes whole T s r r' x y none.why counted made no_disk
run-completes whole {X} T s limit left rest r r' x y (inr one) counted made within no_read no_say no_disk =
    opened-completes T (state_of_log one.c one.kept) s limit left rest r r' x y one.ends counted within no_read no_say
    no_disk
