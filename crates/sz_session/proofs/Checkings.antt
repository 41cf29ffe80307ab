-- The check of a log: what the status that it ends with tells.
--
-- The key idea: what is told of a status is found in its own case, and the others never come. To open a log leaves the
-- disk and what was said as they were, so what a stop finds from there on is told from the start.
use Rattle.std.proofs.Common.{◌≡◌, ℕ, List, [], true, Some, None, refl, sym, ◌∙◌, subst, inl, inr, true≢false}
use Rattle.std.specs.Prelude.{Option, ◌⊎◌}
use Rattle.sz_outside.specs.Outside.{Rose, SaysPart}
use Rattle.sz_outside.specs.Disk.{Same, Said}
use Rattle.sz_outside.specs.declared.stations.Station.{Ghosts}
use Rattle.sz_catalogue.specs.Holdings.{Holdings}
use Rattle.sz_recover.specs.Logs.{Kept, IsMade, IsBroken, IsNoLog}
use Rattle.sz_feed.specs.Making.{IsSilent}
use Rattle.sz_feed.specs.Disks.{OnlySays}
use Rattle.sz_commands.specs.Stops.{StopsFinding}
use Rattle.sz_session.specs.Checking.{IsLineOf, IfNoLog, BeginsAsLog, StopsChecking}
use Rattle.sz_session.specs.Statuses.{is_of_disk, ChecksLog, AreCounted}
use Rattle.sz_session.specs.declared.serving.Status.{Status}
use Rattle.sz_session.specs.declared.serving.Status.TheVariants as status
use Rattle.sz_feed.proofs.Disks.{stops-both, stops-silent}

-- ---- what a status tells

-- of the disk alone
pub check-silent : {X : Type 0} (T : Ghosts X) (s : Status) (a b : X) → ChecksLog T s a b → is_of_disk s ≡ true
    → IsSilent T a b
check-silent {X} T status.DiskFault a b ends is = ends
check-silent {X} T status.NotALog a b ends is = ends.0
check-silent {X} T (status.BadLog at) a b ends is = ends.0
check-silent {X} T status.AlreadyALog a b ends is = absurd ends
check-silent {X} T _ a b ends is = absurd (true≢false (sym is))

-- ---- a disk that does not begin as a log

-- the status by which the check of such a one ends
abbrev pub StopsUnlike : Status → Type 0
StopsUnlike s = (s ≡ status.NotALog) ⊎ ((s ≡ status.DiskFault) ⊎ (s ≡ status.NoMemory))

-- a disk that is a log, well made or bad somewhere, is none of these
pub no_log-made : (o : Option (List ℕ)) (at format : ℕ) (c : Holdings) (kept : List Kept) (Claim : Type 0)
    → IsMade o at format c kept → IfNoLog o Claim
no_log-made None at format c kept Claim made = tt
no_log-made (Some disk) at format c kept Claim made = λ other. absurd (true≢false (sym made.header ∙ other))

pub no_log-broken : (o : Option (List ℕ)) (at : ℕ) (Claim : Type 0) → IsBroken o at → IfNoLog o Claim
no_log-broken None at Claim broken = tt
no_log-broken (Some disk) at Claim broken = λ other. absurd (true≢false (sym broken.before.header ∙ other))

-- what is so of each disk
pub no_log-each : (o : Option (List ℕ)) (Claim : Type 0) → Claim → IfNoLog o Claim
no_log-each None Claim is = tt
no_log-each (Some disk) Claim is = λ other. is

-- a line is said of a well-made log
no_log-line : (o : Option (List ℕ)) (line : List ℕ) (Claim : Type 0) → IsLineOf o line → IfNoLog o Claim
no_log-line o line Claim is = no_log-made o is.at is.format is.c is.kept Claim is.made

pub check-unlike : {X : Type 0} (T : Ghosts X) (s : Status) (a b : X) → ChecksLog T s a b
    → IfNoLog (T.disk a) (StopsUnlike s)
check-unlike {X} T status.Done a b ends = no_log-line (T.disk a) ends.0 _ ends.1
check-unlike {X} T status.SayFault a b ends = no_log-line (T.disk a) ends.0 _ ends.1
check-unlike {X} T status.DiskFault a b ends = no_log-each (T.disk a) _ (inr (inl refl))
check-unlike {X} T status.NotALog a b ends = no_log-each (T.disk a) _ (inl refl)
check-unlike {X} T (status.BadLog at) a b ends = no_log-broken (T.disk a) at _ ends.1.0
check-unlike {X} T status.NoMemory a b ends = no_log-each (T.disk a) _ (inr (inr refl))
check-unlike {X} T _ a b ends = absurd ends

-- ---- a disk that begins as a log

-- the statuses by which the check of such a one ends where no count rose
abbrev pub StopsBegun : Status → Type 0
StopsBegun s = (s ≡ status.Done) ⊎ ((s ≡ status.NoMemory) ⊎ ((at : ℕ) × (s ≡ status.BadLog at)))

pub begun-log : (o : Option (List ℕ)) → BeginsAsLog o → IsNoLog o → ⊥
begun-log None begun other = begun
begun-log (Some disk) begun other = true≢false (sym begun ∙ other)

pub check-tells : {X : Type 0} (T : Ghosts X) (s : Status) (a b : X) → ChecksLog T s a b
    → AreCounted T s 0 0 a b → BeginsAsLog (T.disk a) → (Rose (T.disk_faults a) (T.disk_faults b) → ⊥)
    → (Rose (T.say_faults a) (T.say_faults b) → ⊥) → StopsBegun s
check-tells {X} T status.Done a b ends counted begun no_disk no_say = inl refl
check-tells {X} T status.SayFault a b ends counted begun no_disk no_say = absurd (no_say counted.1)
check-tells {X} T status.DiskFault a b ends counted begun no_disk no_say = absurd (no_disk counted.2)
check-tells {X} T status.NotALog a b ends counted begun no_disk no_say = absurd (begun-log (T.disk a) begun ends.1.0)
check-tells {X} T (status.BadLog at) a b ends counted begun no_disk no_say = inr (inr (at, refl))
check-tells {X} T status.NoMemory a b ends counted begun no_disk no_say = inr (inl refl)
check-tells {X} T _ a b ends counted begun no_disk no_say = absurd ends

-- ---- what a stop leaves

-- a log that was not opened
pub fails-stops : {X : Type 0} (T : Ghosts X) (a b : X) → T.disk b ≡ T.disk a
    → StopsFinding T Same (Said (T.said a)) a b → StopsChecking T a b
fails-stops {X} T a b reads stops = record {
  reads = reads;
  line = [];
  line_is = inl refl;
  stops = stops-silent T [] a b stops;
}

line_is-behind : (line : List ℕ) (o p : Option (List ℕ)) → p ≡ o → (line ≡ []) ⊎ IsLineOf p line
    → (line ≡ []) ⊎ IsLineOf o line
line_is-behind line o p is (inl none) = inl none
line_is-behind line o p is (inr one) = inr (subst (λ (x : Option (List ℕ)). IsLineOf x line) is one)

-- a log that was opened, and then checked
pub opened-stops : {X : Type 0} (T : Ghosts X) (a b c : X) → T.disk b ≡ T.disk a → T.said b ≡ T.said a
    → StopsFinding T Same (Said (T.said a)) a b → StopsChecking T b c → StopsChecking T a c
opened-stops {X} T a b c disk said first stops =
    let Finds : Option (List ℕ) → List ℕ → Type 0 = λ o found. SaysPart o (Some found) stops.line in
    record {
      reads = stops.reads ∙ disk;
      line = stops.line;
      line_is = line_is-behind stops.line (T.disk a) (T.disk b) disk stops.line_is;
      stops = stops-both T (Finds (T.said a)) a b c disk (stops-silent T stops.line a b first)
          (subst (λ (o : Option (List ℕ)). StopsFinding T Same (Finds o) b c) said stops.stops);
    }

-- a line that is said, of a log that was opened
pub line-stops : {X : Type 0} (T : Ghosts X) (line : List ℕ) (a b : X) → (line ≡ []) ⊎ IsLineOf (T.disk a) line
    → OnlySays T line a b → StopsChecking T a b
line-stops {X} T line a b is only =
    record { reads = only.reads; line = line; line_is = is; stops = only.stops }
