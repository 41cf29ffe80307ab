-- The raising of a log: what the status that it ends with tells, what is made of the disk, and what a stop leaves.
--
-- The key idea: the group of kind 5 acts on whatever a log of format 1 holds, and changes nothing of it. So the log is
-- well made before the group and behind it, and a stop leaves one or the other; to open a log and to say its line
-- changes no image.
use Rattle.std.proofs.Common.{◌≡◌, ℕ, List, [], ◌++◌, Option, Some, None, true, refl, sym, subst, inl, inr}
use Rattle.std.proofs.Common.{⊎_elim, true≢false, append-nil, arith}
use Rattle.std.specs.Prelude.{◌⊎◌}
use Rattle.std.proofs.lemmas.Bool.Decides.{nat_tests}
use Rattle.sz_outside.specs.Disk.{Told, Passes, Follows, Same, Said, Only}
use Rattle.sz_outside.specs.Outside.{SaysPart}
use Rattle.sz_outside.specs.declared.stations.Station.{Ghosts}
use Rattle.sz_log.specs.Steps.{Added, AddsOrKeeps, place_behind}
use Rattle.sz_log.proofs.Moments.{seen_as}
use Rattle.sz_catalogue.specs.Holdings.{Holdings}
use Rattle.sz_recover.specs.Logs.{Kept, IsWellMade, IsMade}
use Rattle.sz_recover.specs.Growing.{Growth}
use Rattle.sz_recover.proofs.Grown.{made-logs-grow, logs-grow-or-stay}
use Rattle.sz_recover.proofs.Logged.{upgrades-act}
use Rattle.sz_commands.specs.Stops.{StopsFinding}
use Rattle.sz_commands.proofs.Stops.{told-more, pass-still}
use Rattle.sz_commands.proofs.Logged.{still-synced}
use Rattle.sz_feed.specs.Making.{IsSilent}
use Rattle.sz_feed.specs.Disks.{OnlySays}
use Rattle.sz_feed.proofs.Passes.{Images, FindsNow, CountsNow, told-both, same-follows, pass-finds, pass-behind}
use Rattle.sz_feed.proofs.Disks.{said-part}
use Rattle.sz_formats.specs.Formats.{is_format}
use Rattle.sz_session.specs.Checking.{IfNoLog}
use Rattle.sz_session.specs.Raising.{raised_line, upgrade_group, IsRaising, RaisesOrStays, StopsRaising}
use Rattle.sz_session.specs.Raising.{HasRaised, RaisesLog}
use Rattle.sz_session.specs.Statuses.{is_of_disk}
use Rattle.sz_session.specs.declared.serving.Status.{Status}
use Rattle.sz_session.specs.declared.serving.Status.TheVariants as status
use Rattle.sz_session.proofs.Checkings.{StopsUnlike, no_log-made, no_log-broken, no_log-each}

-- ---- what a status tells

-- of the disk alone
pub upgrade-silent : {X : Type 0} (T : Ghosts X) (s : Status) (a b : X) → RaisesLog T s a b → is_of_disk s ≡ true
    → IsSilent T a b
upgrade-silent {X} T status.DiskFault a b ends is = ends
upgrade-silent {X} T status.NotALog a b ends is = ends.0.silent
upgrade-silent {X} T (status.BadLog at) a b ends is = ends.0.silent
upgrade-silent {X} T status.AlreadyALog a b ends is = absurd ends
upgrade-silent {X} T _ a b ends is = absurd (true≢false (sym is))

-- a log that was raised begins as one
no_log-raised : {X : Type 0} (T : Ghosts X) (a b : X) (Claim : Type 0) → HasRaised T a b → IfNoLog (T.disk a) Claim
no_log-raised {X} T a b Claim one = no_log-made (T.disk a) one.at.gate one.at.format one.c one.kept Claim one.made

pub upgrade-unlike : {X : Type 0} (T : Ghosts X) (s : Status) (a b : X) → RaisesLog T s a b
    → IfNoLog (T.disk a) (StopsUnlike s)
upgrade-unlike {X} T status.Done a b ends = no_log-raised T a b _ ends.0
upgrade-unlike {X} T status.SayFault a b ends = no_log-raised T a b _ ends.0
upgrade-unlike {X} T status.DiskFault a b ends = no_log-each (T.disk a) _ (inr (inl refl))
upgrade-unlike {X} T status.NotALog a b ends = no_log-each (T.disk a) _ (inl refl)
upgrade-unlike {X} T (status.BadLog at) a b ends = no_log-broken (T.disk a) at _ ends.1.0
upgrade-unlike {X} T status.NoMemory a b ends = no_log-each (T.disk a) _ (inr (inr refl))
upgrade-unlike {X} T _ a b ends = absurd ends

-- ---- the group

-- format 1 and 2 are all
pub second-format : (format : ℕ) → is_format format ≡ true → (format ≡ 1 → ⊥) → format ≡ 2
second-format format is other = grind (arith, nat_tests)

-- what it makes of a log of format 1
abbrev raise-growth : Holdings → List Kept → Growth
raise-growth c kept =
    record { format_before = 1; before = c; kept = kept; format_after = 2; after = c; more = [] }

-- the log was raised
pub raised-one : {X : Type 0} (T : Ghosts X) (at format next : ℕ) (c : Holdings) (kept : List Kept) (a b : X)
    → format ≡ 1 → IsMade (T.disk a) at format c kept → Added (T.disk a) (T.disk b) at upgrade_group
    → Told (T.disk a) (next ≡ place_behind at upgrade_group) → Only (T.disk b) (T.may_leave b) → HasRaised T a b
raised-one {X} T at format next c kept a b first made added place synced =
    let was : IsMade (T.disk a) at 1 c kept = subst (λ (f : ℕ). IsMade (T.disk a) at f c kept) first made in
    let is : IsMade (T.disk b) next 2 c (kept ++ []) =
    made-logs-grow (T.disk a) (T.disk b) at next upgrade_group (raise-growth c kept) was (upgrades-act c) added place in
    record {
      at = record { gate = at; format = format };
      c = c;
      kept = kept;
      made = made;
      next = next;
      raised = subst (λ (ks : List Kept). IsMade (T.disk b) next 2 c ks) (append-nil kept) is;
      groups = inr (first, added);
      synced = synced;
    }

-- or was of format 2 before
pub raised-before : {X : Type 0} (T : Ghosts X) (at format : ℕ) (c : Holdings) (kept : List Kept) (a : X)
    → format ≡ 2 → IsMade (T.disk a) at format c kept → Only (T.disk a) (T.may_leave a) → HasRaised T a a
raised-before {X} T at format c kept a second made synced = record {
  at = record { gate = at; format = format };
  c = c;
  kept = kept;
  made = made;
  next = at;
  raised = subst (λ (f : ℕ). IsMade (T.disk a) at f c kept) second made;
  groups = inl (second, refl);
  synced = synced;
}

-- a log that was opened before, and whose line was said behind
abbrev AreRaised : ℕ → ℕ → Option (List ℕ) → Option (List ℕ) → Type 0
AreRaised at format old new = ((format ≡ 2) × (new ≡ old)) ⊎ ((format ≡ 1) × Added old new at upgrade_group)

pub raised-opened : {X : Type 0} (T : Ghosts X) (a b x : X) → T.disk b ≡ T.disk a → HasRaised T b x → HasRaised T a x
raised-opened {X} T a b x disk one = record {
  at = one.at;
  c = one.c;
  kept = one.kept;
  made = subst (λ (o : Option (List ℕ)). IsMade o one.at.gate one.at.format one.c one.kept) disk one.made;
  next = one.next;
  raised = one.raised;
  groups =
      subst (λ (o : Option (List ℕ)). AreRaised one.at.gate one.at.format o (T.disk x)) disk one.groups;
  synced = one.synced;
}

pub raised-said : {X : Type 0} (T : Ghosts X) (bytes : List ℕ) (a b x : X) → HasRaised T a b → OnlySays T bytes b x
    → HasRaised T a x
raised-said {X} T bytes a b x one says = record {
  at = one.at;
  c = one.c;
  kept = one.kept;
  made = one.made;
  next = one.next;
  raised = subst (λ (o : Option (List ℕ)). IsMade o one.next 2 one.c one.kept) (sym says.reads) one.raised;
  groups =
      subst (λ (o : Option (List ℕ)). AreRaised one.at.gate one.at.format (T.disk a) o) (sym says.reads) one.groups;
  synced = still-synced T _ b x says.reads says.stops one.synced;
}

-- ---- what a stop leaves

raise-same : (A : Images) (image : List ℕ) → Follows Same A image → Follows RaisesOrStays A image
raise-same A image (old, was, is) = (old, was, inl is)

-- of the append of the group
raising-log : (old image : List ℕ) (at : ℕ) (c : Holdings) (kept : List Kept) → IsWellMade old at 1 c kept
    → AddsOrKeeps at upgrade_group old image → IsRaising old image
raising-log old image at c kept made adds = record {
  at = at;
  c = c;
  kept = kept;
  made = made;
  groups = adds;
  left = ⊎_elim inl
      (λ more. inr (subst (λ (ks : List Kept). IsWellMade image (place_behind at upgrade_group) 2 c ks)
      (append-nil kept) more))
      (logs-grow-or-stay old image at upgrade_group (raise-growth c kept) made (upgrades-act c) adds);
}

raising : (o : Option (List ℕ)) (A : Images) (at format : ℕ) (c : Holdings) (kept : List Kept) → format ≡ 1
    → IsMade o at format c kept → Only o A
    → Told o ((image : List ℕ) → Follows (AddsOrKeeps at upgrade_group) A image → Follows RaisesOrStays A image)
raising None A at format c kept first made only = tt
raising (Some disk) A at format c kept first made only = λ image (old, was, adds).
    let same : old ≡ disk = only old was in
    let here : IsWellMade old at format c kept =
    subst (λ (d : List ℕ). IsWellMade d at format c kept) (sym same) made in
    (old, was, inr (raising-log old image at c kept (subst (λ (f : ℕ). IsWellMade old at f c kept) first here) adds))

pub append-raises : {X : Type 0} (T : Ghosts X) (at format : ℕ) (c : Holdings) (kept : List Kept) (a b : X)
    → format ≡ 1 → IsMade (T.disk a) at format c kept → Only (T.disk a) (T.may_leave a)
    → StopsFinding T (AddsOrKeeps at upgrade_group) (Said (T.said a)) a b
    → StopsFinding T RaisesOrStays (Said (T.said a)) a b
append-raises {X} T at format c kept a b first made only stops =
    told-both (T.disk a) _ _ _ (λ seen passes. seen_as passes seen)
    (raising (T.disk a) (T.may_leave a) at format c kept first made only) stops

-- where no call is made
pub raise-still : {X : Type 0} (T : Ghosts X) (a : X)
    → FindsNow T a → CountsNow T a → StopsFinding T RaisesOrStays (Said (T.said a)) a a
raise-still {X} T a only counts =
    told-more (T.disk a) _ _ (λ passes. seen_as passes (raise-same (T.may_leave a)))
    (pass-still (T.disk a) (T.said a) (T.moment a) (T.left_since a) (T.may_leave a) only counts)

-- of a log that was opened, and raised or not
pub opened-raises : {X : Type 0} (T : Ghosts X) (a b x : X) → T.disk b ≡ T.disk a → T.said b ≡ T.said a
    → StopsFinding T Same (Said (T.said a)) a b → StopsFinding T RaisesOrStays (Said (T.said b)) b x
    → StopsFinding T RaisesOrStays (Said (T.said a)) a x
opened-raises {X} T a b x disk said first second =
    let Second : Option (List ℕ) → Type 0 = λ o.
    Passes (T.moment b) (T.moment x) (T.left_since b) (T.left_since x) (T.may_leave b) (T.may_leave x) RaisesOrStays
    (Said o) in
    told-both (T.disk a) _ (Second (T.said a)) _
    (λ one two. pass-behind one two (raise-same (T.may_leave a))
    (λ image (old, was, step). (old, same-follows (T.may_leave a) old (one.images old was), step))
    (λ found was. was) (λ found was. was)) first
    (subst (λ (o : Option (List ℕ)). Told o (Second (T.said a))) disk
    (subst (λ (o : Option (List ℕ)). Told (T.disk b) (Second o)) said second))

-- and of which nothing was said
pub raise-stops : {X : Type 0} (T : Ghosts X) (a b : X) → StopsFinding T RaisesOrStays (Said (T.said a)) a b
    → StopsRaising T a b
raise-stops {X} T a b stops =
    told-more (T.disk a) _ _
    (λ passes. pass-finds (λ found was. said-part (T.said a) raised_line found was) passes) stops

-- of a disk that was only read
pub read-stops : {X : Type 0} (T : Ghosts X) (a b : X) → StopsFinding T Same (Said (T.said a)) a b
    → StopsRaising T a b
read-stops {X} T a b stops =
    raise-stops T a b
    (told-more (T.disk a) _ _ (λ passes. seen_as passes (raise-same (T.may_leave a))) stops)

pub raising-still : {X : Type 0} (T : Ghosts X) (a : X)
    → FindsNow T a → CountsNow T a → StopsRaising T a a
raising-still {X} T a only counts = raise-stops T a a (raise-still T a only counts)

-- a disk is told behind the raising where it is told before
told-raised : (o p : Option (List ℕ)) (at format : ℕ) (C : Type 0) → AreRaised at format o p → Told p C → Told o C
told-raised None p at format C groups is = tt
told-raised (Some disk) p at format C (inl (second, same)) is =
    subst (λ (x : Option (List ℕ)). Told x C) same is
told-raised (Some disk) p at format C (inr (first, added)) is =
    subst (λ (x : Option (List ℕ)). Told x C) added.1 is

-- the line of a log that was raised is said
pub raised-stops : {X : Type 0} (T : Ghosts X) (a b x : X) → HasRaised T a b → T.said b ≡ T.said a
    → StopsFinding T RaisesOrStays (Said (T.said a)) a b → OnlySays T raised_line b x → StopsRaising T a x
raised-stops {X} T a b x one said first says =
    let Second : Option (List ℕ) → Type 0 = λ o.
    Passes (T.moment b) (T.moment x) (T.left_since b) (T.left_since x) (T.may_leave b) (T.may_leave x) Same
    (λ found. SaysPart o (Some found) raised_line) in
    told-both (T.disk a) _ (Second (T.said a)) _
    (λ p q. pass-behind p q (λ image left. left)
    (λ image (old, was, is). subst (Follows RaisesOrStays (T.may_leave a)) (sym is) (p.images old was))
    (λ found was. said-part (T.said a) raised_line found was) (λ found part. part)) first
    (told-raised (T.disk a) (T.disk b) one.at.gate one.at.format (Second (T.said a)) one.groups
    (subst (λ (o : Option (List ℕ)). Told (T.disk b) (Second o)) said says.stops))
