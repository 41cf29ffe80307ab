-- What the status of a call tells, whatever its mode.
--
-- The key idea: what a status tells is found in the record of the mode that was asked for, and in the others the status
-- does not come.
use Rattle.std.proofs.Common.{◌≡◌, ℕ, ◌^◌, List, [], true, false, Some, None, refl, sym, ap, ◌∙◌, subst, inl, inr}
use Rattle.std.proofs.Common.{arith, true≢false}
use Rattle.std.specs.Prelude.{Option, ◌⊎◌}
use Rattle.sz_outside.specs.declared.sources.Source as source
use Rattle.sz_outside.specs.declared.stations.Station.{Ghosts}
use Rattle.sz_recover.specs.OneReading.{WellMadeLogsAreNotBad, LogsAreFirstBadAtOnePlace}
use Rattle.sz_commands.specs.States.{nothing_held}
use Rattle.sz_feed.specs.Serving.{IsPastLimit}
use Rattle.sz_feed.specs.Running.{state_of_log}
use Rattle.sz_feed.specs.Disks.{DiskStays}
use Rattle.sz_feed.specs.Making.{IsSilent}
use Rattle.sz_session.specs.Statuses.{is_of_disk, NoneRose, AreCounted, SaysSummary, MakesLog, ChecksLog}
use Rattle.sz_session.specs.Raising.{RaisesLog}
use Rattle.sz_session.specs.Checking.{IsUnlike, IsBadLog, IfNoLog, IfBadLog}
use Rattle.sz_session.specs.Continuing.{EndsOnLog}
use Rattle.sz_session.specs.Modes.{AsksFor, Serves, is_for, is_of_lines, is_opened}
use Rattle.sz_session.specs.declared.serving.Status.{Status}
use Rattle.sz_session.specs.declared.serving.Status.TheVariants as status
use Rattle.sz_words.specs.Job.{is_on_log}
use Rattle.sz_words.specs.declared.Job.{Job}
use Rattle.sz_words.specs.declared.arguments.JobMode.{JobMode}
use Rattle.sz_words.specs.declared.arguments.JobMode.TheVariants as mode
use Rattle.sz_feed.proofs.Disks.{stays-still, disk-stays}
use Rattle.sz_session.proofs.Ends.{ends-not_disk, limit-passed}
use Rattle.sz_session.proofs.Loads.{load-not_disk}
use Rattle.sz_session.proofs.Makings.{init-silent}
use Rattle.sz_session.proofs.Checkings.{check-silent, check-unlike, StopsUnlike}
use Rattle.sz_session.proofs.Raisings.{upgrade-silent, upgrade-unlike}
use Rattle.sz_session.proofs.Modes.{by-mode, by-status, for-mode, for-none, not-for, is_refusal, not-refused}
use Rattle.sz_feed.proofs.Passes.{FindsNow, CountsNow}
use Rattle.sz_session.proofs.Exactly.{StopsBroken, run-no_log, run-unlike, run-broken, check-broken, upgrade-broken}

-- ---- counts of faults

-- a mode that reads no lines counts no read, since it leaves the source as it was
unread-counted : {X : Type 0} (T : Ghosts X) (s : Status) (r r' : ℕ) (x y : X) → r' ≡ r → AreCounted T s 0 0 x y
    → AreCounted T s r r' x y
unread-counted {X} T status.Usage r r' x y same counted = counted
unread-counted {X} T status.ReadFault r r' x y same counted = absurd (omega (arith, counted.0))
unread-counted {X} T _ r r' x y same counted = (same, counted.1, counted.2)

-- of each call that asks for a mode the counts tell the status
call-counted : {Y X : Type 0} (S : source.Ghosts Y) (T : Ghosts X) (o : Option Job) (s : Status)
    (before after : Y) (old new : X) → Serves S T o s before after old new
    → (o ≡ None → ⊥) → AreCounted T s (S.faults before) (S.faults after) old new
call-counted {Y} {X} S T o s before after old new serves asks =
    let unread = λ (m : JobMode) (asked : AsksFor m o) (other : is_of_lines m ≡ false).
    ap S.faults (serves.unread (for-mode is_of_lines o m asked ∙ other)) in
    by-mode S T o s before after old new _ serves
    (λ none refused same. absurd (asks none))
    (λ asked e. e.counted)
    (λ asked line e. unread-counted T s _ _ old new (unread mode.Load asked refl) e.counted)
    (λ asked e. unread-counted T s _ _ old new (unread mode.Init asked refl) e.counted)
    (λ asked e. unread-counted T s _ _ old new (unread mode.Check asked refl) e.counted)
    (λ asked e. unread-counted T s _ _ old new (unread mode.Upgrade asked refl) e.counted)
    (λ asked e. e.counted)

-- so they do where the status is none of those of refused words
pub status-counted : {Y X : Type 0} {S : source.Ghosts Y} {T : Ghosts X} {o : Option Job} {s : Status}
    {before after : Y} {old new : X} → Serves S T o s before after old new
    → (t : Status) → is_refusal t ≡ false → s ≡ t → AreCounted T t (S.faults before) (S.faults after) old new
status-counted {Y} {X} {S} {T} {o} {s} {before} {after} {old} {new} serves t other is =
    let call : Serves S T o t before after old new = by-status serves is in
    call-counted S T o t before after old new call (λ none. not-refused t (call.refused none) other)

-- where memory was refused no count rose
pub quiet-memory : {Y X : Type 0} (S : source.Ghosts Y) (T : Ghosts X) (o : Option Job) (s : Status)
    (before after : Y) (old new : X) → Serves S T o s before after old new → s ≡ status.NoMemory
    → NoneRose T (S.faults before) (S.faults after) old new
quiet-memory {Y} {X} S T None s before after old new serves is =
    let same = serves.untouched refl in
    (ap S.faults same.0, ap T.say_faults same.1, ap T.disk_faults same.1)
quiet-memory {Y} {X} S T (Some job) s before after old new serves is =
    call-counted S T (Some job) status.NoMemory before after old new (by-status serves is) (λ none. cc)

-- ---- statuses of some modes alone

-- Usage is of refused words
pub usage-refused : {Y X : Type 0} (S : source.Ghosts Y) (T : Ghosts X) (o : Option Job) (s : Status)
    (before after : Y) (old new : X) → Serves S T o s before after old new → s ≡ status.Usage
    → o ≡ None
usage-refused {Y} {X} S T o s before after old new serves is =
    by-mode S T o status.Usage before after old new _ (by-status serves is)
    (λ none refused same. none)
    (λ asked e. absurd e.ends)
    (λ asked line e. absurd e.ends)
    (λ asked e. absurd e.ends)
    (λ asked e. absurd e.ends)
    (λ asked e. absurd e.ends)
    (λ asked e. absurd e.counted)

-- a status of no refused words comes where lines are read, where no other mode ends with it
lines-alone : {Y X : Type 0} (S : source.Ghosts Y) (T : Ghosts X) (o : Option Job) (t : Status)
    (before after : Y) (old new : X) → Serves S T o t before after old new → is_refusal t ≡ false
    → ((line : List ℕ) → SaysSummary t line (T.said old) (T.said new) → ⊥) → (MakesLog T t old new → ⊥)
    → (ChecksLog T t old new → ⊥) → (RaisesLog T t old new → ⊥) → is_for is_of_lines o ≡ true
lines-alone {Y} {X} S T o t before after old new serves other load init check upgrade =
    by-mode S T o t before after old new _ serves
    (λ none refused same. absurd (not-refused t refused other))
    (λ asked e. for-mode is_of_lines o mode.Play asked)
    (λ asked line e. absurd (load line e.ends))
    (λ asked e. absurd (init e.ends))
    (λ asked e. absurd (check e.ends))
    (λ asked e. absurd (upgrade e.ends))
    (λ asked e. for-mode is_of_lines o mode.Run asked)

-- as a fault in reading, and the limit
pub lines-read : {Y X : Type 0} (S : source.Ghosts Y) (T : Ghosts X) (o : Option Job) (s : Status)
    (before after : Y) (old new : X) → Serves S T o s before after old new
    → (s ≡ status.ReadFault) ⊎ (s ≡ status.InputLimit) → is_for is_of_lines o ≡ true
lines-read {Y} {X} S T o s before after old new serves (inl is) =
    lines-alone S T o status.ReadFault before after old new (by-status serves is) refl
    (λ line e. e) (λ e. e) (λ e. e) (λ e. e)
lines-read {Y} {X} S T o s before after old new serves (inr is) =
    lines-alone S T o status.InputLimit before after old new (by-status serves is) refl
    (λ line e. e) (λ e. e) (λ e. e) (λ e. e)

-- the limit is of a source that has more bytes than a session may have
limit-run : {X : Type 0} (T : Ghosts X) (x y : X) (limit : ℕ) (all left : Option (List ℕ))
    → EndsOnLog T status.InputLimit limit all left x y → IsPastLimit limit all
limit-run {X} T x y limit all left (inl none) = absurd none.why
limit-run {X} T x y limit all left (inr one) =
    limit-passed (state_of_log one.c one.kept) limit all left (T.said x) (T.said y) one.ends

pub limit-past : {Y X : Type 0} (S : source.Ghosts Y) (T : Ghosts X) (o : Option Job) (s : Status)
    (before after : Y) (old new : X) → Serves S T o s before after old new → s ≡ status.InputLimit
    → IsPastLimit (2 ^ 62) (S.left before)
limit-past {Y} {X} S T o s before after old new serves is =
    by-mode S T o status.InputLimit before after old new _ (by-status serves is)
    (λ none refused same. absurd (not-refused status.InputLimit refused refl))
    (λ asked e. limit-passed nothing_held (2 ^ 62) _ _ _ _ e.ends)
    (λ asked line e. absurd e.ends)
    (λ asked e. absurd e.ends)
    (λ asked e. absurd e.ends)
    (λ asked e. absurd e.ends)
    (λ asked e. limit-run T old new (2 ^ 62) _ _ e.ends)

-- a log is there already in init
run-not_already : {X : Type 0} (T : Ghosts X) (limit : ℕ) (all left : Option (List ℕ)) (x y : X)
    → EndsOnLog T status.AlreadyALog limit all left x y → ⊥
run-not_already {X} T limit all left x y (inl none) = none.why
run-not_already {X} T limit all left x y (inr one) = one.ends

pub already-init : {Y X : Type 0} (S : source.Ghosts Y) (T : Ghosts X) (o : Option Job) (s : Status)
    (before after : Y) (old new : X) → Serves S T o s before after old new → s ≡ status.AlreadyALog
    → AsksFor mode.Init o
already-init {Y} {X} S T o s before after old new serves is =
    by-mode S T o status.AlreadyALog before after old new _ (by-status serves is)
    (λ none refused same. absurd (not-refused status.AlreadyALog refused refl))
    (λ asked e. absurd e.ends)
    (λ asked line e. absurd e.ends)
    (λ asked e. asked)
    (λ asked e. absurd e.ends)
    (λ asked e. absurd e.ends)
    (λ asked e. absurd (run-not_already T (2 ^ 62) _ _ old new e.ends))

-- ---- the disk

-- no status of refused words comes of it
refused-not_disk : (s : Status) → (s ≡ status.Usage) ⊎ (s ≡ status.NoMemory) → is_of_disk s ≡ true → ⊥
refused-not_disk s (inl usage) is = true≢false (sym is ∙ ap is_of_disk usage)
refused-not_disk s (inr none) is = true≢false (sym is ∙ ap is_of_disk none)

-- a status that comes of it comes in a mode of a log
pub disk-log : {Y X : Type 0} (S : source.Ghosts Y) (T : Ghosts X) (o : Option Job) (s : Status)
    (before after : Y) (old new : X) → Serves S T o s before after old new → is_of_disk s ≡ true
    → is_for is_on_log o ≡ true
disk-log {Y} {X} S T o s before after old new serves is =
    by-mode S T o s before after old new _ serves
    (λ none refused same. absurd (refused-not_disk s refused is))
    (λ asked e. absurd (ends-not_disk nothing_held s _ _ _ _ _ e.ends is))
    (λ asked line e. absurd (load-not_disk s line _ _ e.ends is))
    (λ asked e. for-mode is_on_log o mode.Init asked)
    (λ asked e. for-mode is_on_log o mode.Check asked)
    (λ asked e. for-mode is_on_log o mode.Upgrade asked)
    (λ asked e. for-mode is_on_log o mode.Run asked)

-- and then nothing was said, but where a session goes on
pub log-silent : {Y X : Type 0} (S : source.Ghosts Y) (T : Ghosts X) (o : Option Job) (s : Status)
    (before after : Y) (old new : X) → Serves S T o s before after old new → (AsksFor mode.Run o → ⊥)
    → is_of_disk s ≡ true → IsSilent T old new
log-silent {Y} {X} S T o s before after old new serves other is =
    by-mode S T o s before after old new _ serves
    (λ none refused same. absurd (refused-not_disk s refused is))
    (λ asked e. absurd (ends-not_disk nothing_held s _ _ _ _ _ e.ends is))
    (λ asked line e. absurd (load-not_disk s line _ _ e.ends is))
    (λ asked e. init-silent T s old new e.ends is)
    (λ asked e. check-silent T s old new e.ends is)
    (λ asked e. upgrade-silent T s old new e.ends is)
    (λ asked e. absurd (other asked))

-- a mode that uses no log leaves it as it was
pub disk-same : {Y X : Type 0} (S : source.Ghosts Y) (T : Ghosts X) (o : Option Job) (s : Status)
    (before after : Y) (old new : X) → FindsNow T old → CountsNow T old → Serves S T o s before after old new
    → is_for is_on_log o ≡ false → DiskStays T old new
disk-same {Y} {X} S T o s before after old new only counts serves other =
    let of_log = λ (m : JobMode) (asked : AsksFor m o) (is : is_on_log m ≡ true).
    true≢false (sym is ∙ sym (for-mode is_on_log o m asked) ∙ other) in
    by-mode S T o s before after old new _ serves
    (λ none refused same. subst (λ (x : X). DiskStays T old x) (sym same)
    (disk-stays T _ old old (stays-still T [] old only counts)))
    (λ asked e. disk-stays T _ old new e.found)
    (λ asked line e. disk-stays T _ old new e.found)
    (λ asked e. absurd (of_log mode.Init asked refl))
    (λ asked e. absurd (of_log mode.Check asked refl))
    (λ asked e. absurd (of_log mode.Upgrade asked refl))
    (λ asked e. absurd (of_log mode.Run asked refl))

-- ---- the modes that open a log

-- the status that tells of no log comes of such a disk alone
pub opening-no_log : {Y X : Type 0} (S : source.Ghosts Y) (T : Ghosts X) (o : Option Job) (s : Status)
    (before after : Y) (old new : X) → Serves S T o s before after old new → is_for is_opened o ≡ true
    → s ≡ status.NotALog → IsUnlike T old new
opening-no_log {Y} {X} S T o s before after old new serves opened is =
    by-mode S T o status.NotALog before after old new _ (by-status serves is)
    (λ none refused same. absurd (not-refused status.NotALog refused refl))
    (λ asked e. absurd e.ends)
    (λ asked line e. absurd e.ends)
    (λ asked e. absurd (not-for is_opened o mode.Init asked refl opened))
    (λ asked e. e.ends.1)
    (λ asked e. e.ends.1)
    (λ asked e. run-no_log T (2 ^ 62) _ _ _ _ old new e.ends e.counted)

-- and such a one has that status
pub opening-unlike : {Y X : Type 0} (S : source.Ghosts Y) (T : Ghosts X) (o : Option Job) (s : Status)
    (before after : Y) (old new : X) → Serves S T o s before after old new → is_for is_opened o ≡ true
    → IfNoLog (T.disk old) (StopsUnlike s)
opening-unlike {Y} {X} S T o s before after old new serves opened =
    by-mode S T o s before after old new _ serves
    (λ none refused same. absurd (true≢false (sym opened ∙ for-none is_opened o none)))
    (λ asked e. absurd (not-for is_opened o mode.Play asked refl opened))
    (λ asked line e. absurd (not-for is_opened o mode.Load asked refl opened))
    (λ asked e. absurd (not-for is_opened o mode.Init asked refl opened))
    (λ asked e. check-unlike T s old new e.ends)
    (λ asked e. upgrade-unlike T s old new e.ends)
    (λ asked e. run-unlike T s (2 ^ 62) _ _ old new e.ends)

-- a bad log is one that was opened, and its first bad group stands there
bad-run : {X : Type 0} (T : Ghosts X) (x y : X) (at limit r r' : ℕ) (all left : Option (List ℕ))
    → EndsOnLog T (status.BadLog at) limit all left x y → AreCounted T (status.BadLog at) r r' x y → IsBadLog T at x y
bad-run {X} T x y at limit r r' all left (inl none) counted = (none.why, counted.2)
bad-run {X} T x y at limit r r' all left (inr one) counted = absurd one.ends

pub bad-place : {Y X : Type 0} (S : source.Ghosts Y) (T : Ghosts X) (o : Option Job) (s : Status)
    (before after : Y) (old new : X) (at : ℕ) → Serves S T o s before after old new → s ≡ status.BadLog at
    → (is_for is_opened o ≡ true) × IsBadLog T at old new
bad-place {Y} {X} S T o s before after old new at serves is =
    by-mode S T o (status.BadLog at) before after old new _ (by-status serves is)
    (λ none refused same. absurd (not-refused (status.BadLog at) refused refl))
    (λ asked e. absurd e.ends)
    (λ asked line e. absurd e.ends)
    (λ asked e. absurd e.ends)
    (λ asked e. (for-mode is_opened o mode.Check asked, e.ends.1))
    (λ asked e. (for-mode is_opened o mode.Upgrade asked, e.ends.1))
    (λ asked e. (for-mode is_opened o mode.Run asked, bad-run T old new at (2 ^ 62) _ _ _ _ e.ends e.counted))

-- and such a one has the status of that place
pub opening-broken : WellMadeLogsAreNotBad → LogsAreFirstBadAtOnePlace → {Y X : Type 0} (S : source.Ghosts Y)
    (T : Ghosts X) (o : Option Job) (s : Status) (before after : Y) (old new : X)
    → Serves S T o s before after old new → is_for is_opened o ≡ true
    → IfBadLog (T.disk old) (λ at. StopsBroken s at)
opening-broken whole place {Y} {X} S T o s before after old new serves opened =
    by-mode S T o s before after old new _ serves
    (λ none refused same. absurd (true≢false (sym opened ∙ for-none is_opened o none)))
    (λ asked e. absurd (not-for is_opened o mode.Play asked refl opened))
    (λ asked line e. absurd (not-for is_opened o mode.Load asked refl opened))
    (λ asked e. absurd (not-for is_opened o mode.Init asked refl opened))
    (λ asked e. check-broken whole place T s old new e.ends)
    (λ asked e. upgrade-broken whole place T s old new e.ends)
    (λ asked e. run-broken whole place T s (2 ^ 62) _ _ old new e.ends)
