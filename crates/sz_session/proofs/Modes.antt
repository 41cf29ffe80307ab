-- The mode that words ask for, and what a call owes by it.
--
-- The key idea: words are refused, or they ask for one mode, and then its record tells all of the call. Where nothing
-- was done and there was no memory, each record holds.
use Rattle.std.proofs.Common.{◌≡◌, ℕ, ◌^◌, List, [], Bool, true, false, Some, None}
use Rattle.std.proofs.Common.{refl, sym, ap, ◌∙◌, subst, inl, inr, true≢false}
use Rattle.std.specs.Prelude.{Option, ◌⊎◌, option_map}
use Rattle.std.specs.Option.{option_map_or}
use Rattle.std.proofs.lemmas.Option.{same_Some}
use Rattle.sz_outside.specs.declared.sources.Source as source
use Rattle.sz_outside.specs.declared.stations.Station.{Ghosts}
use Rattle.sz_commands.specs.States.{nothing_held}
use Rattle.sz_feed.specs.Serving.{load_line}
use Rattle.sz_session.specs.Statuses.{words_status, Ends, AreCounted, SaysSummary, MakesLog, ChecksLog}
use Rattle.sz_session.specs.Modes.{mode_in, AsksFor, IfLoad, is_for}
use Rattle.sz_session.specs.Modes.{EndsPlay, EndsLoad, EndsInit, EndsCheck, EndsUpgrade, EndsRun, Serves}
use Rattle.sz_session.specs.Raising.{RaisesLog}
use Rattle.sz_session.specs.declared.serving.Status.{Status}
use Rattle.sz_session.specs.declared.serving.Status.TheVariants as status
use Rattle.sz_words.specs.declared.Job.{Job}
use Rattle.sz_words.specs.declared.arguments.JobMode.{JobMode}
use Rattle.sz_words.specs.declared.arguments.JobMode.TheVariants as mode
use Rattle.sz_words.specs.declared.WordsFault.{WordsFault}
use Rattle.sz_words.specs.declared.WordsFault.TheVariants as fault
use Rattle.sz_feed.proofs.Passes.{FindsNow, CountsNow}
use Rattle.sz_feed.proofs.Told.{none-in_lines}
use Rattle.sz_feed.proofs.Turns.{says-nothing}
use Rattle.sz_feed.proofs.Disks.{stays-still, start-stays, making-still}
use Rattle.sz_session.proofs.Checkings.{line-stops}
use Rattle.sz_session.proofs.Raisings.{raising-still}
use Rattle.sz_session.proofs.Continuing.{unopened-still}

-- ---- what is asked for

none-some : {A : Type 0} (a : A) → None ≡ Some a → ⊥
none-some {A} a is = cc

-- a job asks for its mode, and for no other
pub asked-mode : (o : Option Job) (job : Job) (m : JobMode) → o ≡ Some job → AsksFor m o → job.mode ≡ m
asked-mode o job m is asked =
    same_Some _ _ (sym (ap (λ (p : Option Job). option_map mode_in p) is) ∙ asked)

-- and is there
pub job-not_none : (o : Option Job) (job : Job) → o ≡ Some job → o ≡ None → ⊥
job-not_none o job is none = none-some job (sym none ∙ is)

-- where there is none no mode is asked for
pub none-not_asked : (o : Option Job) (m : JobMode) → o ≡ None → AsksFor m o → ⊥
none-not_asked o m is asked = none-some m (sym (ap (λ (p : Option Job). option_map mode_in p) is) ∙ asked)

-- a test of the mode that is asked for
pub for-mode : (test : JobMode → Bool) (o : Option Job) (m : JobMode) → AsksFor m o → is_for test o ≡ test m
for-mode test o m asked = ap (λ (p : Option JobMode). option_map_or test p false) asked

pub for-job : (test : JobMode → Bool) (o : Option Job) (job : Job) → o ≡ Some job → is_for test o ≡ test job.mode
for-job test o job is = ap (λ (p : Option Job). is_for test p) is

pub for-none : (test : JobMode → Bool) (o : Option Job) → o ≡ None → is_for test o ≡ false
for-none test o is = ap (λ (p : Option Job). is_for test p) is

-- where the mode does not pass it
pub not-for : (test : JobMode → Bool) (o : Option Job) (m : JobMode) → AsksFor m o → test m ≡ false
    → is_for test o ≡ true → ⊥
not-for test o m asked not is = true≢false (sym is ∙ for-mode test o m asked ∙ not)

-- ---- the line of the generated session

-- of a job
pub line-job : (IsSuch : List ℕ → Type 0) (o : Option Job) (job : Job) → o ≡ Some job
    → (job.mode ≡ mode.Load → IsSuch (load_line job)) → IfLoad o IsSuch
line-job IsSuch o job is h = subst (λ (p : Option Job). IfLoad p IsSuch) (sym is) h

-- what holds of each line where it is asked for
pub line-each : (IsSuch : List ℕ → Type 0) (o : Option Job)
    → (AsksFor mode.Load o → (line : List ℕ) → IsSuch line) → IfLoad o IsSuch
line-each IsSuch None h = tt
line-each IsSuch (Some job) h = λ asked. h (ap (λ (m : JobMode). Some m) asked) (load_line job)

-- what follows of such a line
pub line-more : (A B : List ℕ → Type 0) (o : Option Job) → ((line : List ℕ) → A line → B line) → IfLoad o A
    → IfLoad o B
line-more A B None more h = tt
line-more A B (Some job) more h = λ asked. more (load_line job) (h asked)

-- the line that is asked for
pub line-asked : (IsSuch : List ℕ → Type 0) (o : Option Job) → IfLoad o IsSuch → AsksFor mode.Load o
    → (line : List ℕ) × IsSuch line
line-asked IsSuch None h asked = absurd (none-some mode.Load asked)
line-asked IsSuch (Some job) h asked = (load_line job, h (same_Some _ _ asked))

-- ---- a call, by its mode

abbrev pub PlayEnds : {Y X : Type 0} → source.Ghosts Y → Ghosts X → Status → Y → Y → X → X → Type 0
PlayEnds S T s before after old new =
    EndsPlay T s (2 ^ 62) (S.faults before) (S.faults after) (S.left before) (S.left after) old new

abbrev pub RunEnds : {Y X : Type 0} → source.Ghosts Y → Ghosts X → Status → Y → Y → X → X → Type 0
RunEnds S T s before after old new =
    EndsRun T s (2 ^ 62) (S.faults before) (S.faults after) (S.left before) (S.left after) old new

-- what is so where words are refused, and of each mode, is so of the call
pub by-mode : {Y X : Type 0} (S : source.Ghosts Y) (T : Ghosts X) (o : Option Job) (s : Status) (before after : Y)
    (old new : X) (Claim : Type 0) → Serves S T o s before after old new
    → (o ≡ None → (s ≡ status.Usage) ⊎ (s ≡ status.NoMemory) → new ≡ old → Claim)
    → (AsksFor mode.Play o → PlayEnds S T s before after old new → Claim)
    → (AsksFor mode.Load o → (line : List ℕ) → EndsLoad T s line old new → Claim)
    → (AsksFor mode.Init o → EndsInit T s old new → Claim)
    → (AsksFor mode.Check o → EndsCheck T s old new → Claim)
    → (AsksFor mode.Upgrade o → EndsUpgrade T s old new → Claim)
    → (AsksFor mode.Run o → RunEnds S T s before after old new → Claim) → Claim
by-mode {Y} {X} S T None s before after old new Claim serves none play load init check upgrade run =
    none refl (serves.refused refl) (serves.untouched refl).1
by-mode {Y} {X} S T (Some job) s before after old new Claim serves none play load init check upgrade run =
    by job.mode refl where
      by : (m : JobMode) → AsksFor m (Some job) → Claim
      by mode.Play is = play is (serves.play is)
      by mode.Init is = init is (serves.init is)
      by mode.Run is = run is (serves.run is)
      by mode.Check is = check is (serves.check is)
      by mode.Upgrade is = upgrade is (serves.upgrade is)
      by mode.Load is = load is (load_line job) (serves.load (same_Some _ _ is))

-- ---- statuses

-- what a call owes that ended with this status
pub by-status : {Y X : Type 0} {S : source.Ghosts Y} {T : Ghosts X} {o : Option Job} {s t : Status} {before after : Y}
    {old new : X} → Serves S T o s before after old new → s ≡ t → Serves S T o t before after old new
by-status {Y} {X} {S} {T} {o} {s} {t} {before} {after} {old} {new} serves is =
    subst (λ (z : Status). Serves S T o z before after old new) is serves

-- those of refused words
abbrev pub is_refusal : Status → Bool
is_refusal status.Usage = true
is_refusal status.NoMemory = true
is_refusal _ = false

-- no other comes of them
pub not-refused : (s : Status) → (s ≡ status.Usage) ⊎ (s ≡ status.NoMemory) → is_refusal s ≡ false → ⊥
not-refused s (inl usage) other = true≢false (ap is_refusal (sym usage) ∙ other)
not-refused s (inr none) other = true≢false (ap is_refusal (sym none) ∙ other)

-- the status of words that ask for no job
pub words-refused : (f : WordsFault) (s : Status) → s ≡ words_status f → (s ≡ status.Usage) ⊎ (s ≡ status.NoMemory)
words-refused fault.Usage s is = inl is
words-refused fault.NoMemory s is = inr is

-- where it is not Usage there was no memory
pub words-memory : (f : WordsFault) (s : Status) → s ≡ words_status f → (f ≡ fault.Usage → ⊥) → s ≡ status.NoMemory
words-memory fault.Usage s is never = absurd (never refl)
words-memory fault.NoMemory s is never = is

-- ---- where nothing was done, and there was no memory

-- no count rose
idle-counted : {X : Type 0} (T : Ghosts X) (s : Status) (r : ℕ) (x : X) → s ≡ status.NoMemory
    → AreCounted T s r r x x
idle-counted {X} T s r x is = subst (λ (z : Status). AreCounted T z r r x x) (sym is) (refl, refl, refl)

idle-play : {X : Type 0} (T : Ghosts X) (s : Status) (limit r : ℕ) (left : Option (List ℕ)) (x : X) → FindsNow T x
    → CountsNow T x → s ≡ status.NoMemory → EndsPlay T s limit r r left left x x
idle-play {X} T s limit r left x only counts is = record {
  ends = subst (λ (z : Status). Ends nothing_held z limit left left (T.said x) (T.said x)) (sym is)
      (none-in_lines nothing_held left (T.said x));
  counted = idle-counted T s r x is;
  found = start-stays T nothing_held left x x (stays-still T [] x only counts);
}

idle-load : {X : Type 0} (T : Ghosts X) (s : Status) (line : List ℕ) (x : X) → FindsNow T x → CountsNow T x
    → s ≡ status.NoMemory → EndsLoad T s line x x
idle-load {X} T s line x only counts is = record {
  ends = subst (λ (z : Status). SaysSummary z line (T.said x) (T.said x)) (sym is) (says-nothing (T.said x));
  counted = idle-counted T s 0 x is;
  found = stays-still T line x only counts;
}

idle-init : {X : Type 0} (T : Ghosts X) (s : Status) (x : X) → FindsNow T x → CountsNow T x → s ≡ status.NoMemory
    → EndsInit T s x x
idle-init {X} T s x only counts is = record {
  ends = subst (λ (z : Status). MakesLog T z x x) (sym is) refl;
  counted = idle-counted T s 0 x is;
  found = making-still T x only counts;
}

idle-check : {X : Type 0} (T : Ghosts X) (s : Status) (x : X) → FindsNow T x → CountsNow T x → s ≡ status.NoMemory
    → EndsCheck T s x x
idle-check {X} T s x only counts is = record {
  ends = subst (λ (z : Status). ChecksLog T z x x) (sym is) (record { said = refl; quiet = refl });
  counted = idle-counted T s 0 x is;
  found = line-stops T [] x x (inl refl) (stays-still T [] x only counts);
}

idle-upgrade : {X : Type 0} (T : Ghosts X) (s : Status) (x : X) → FindsNow T x → CountsNow T x → s ≡ status.NoMemory
    → EndsUpgrade T s x x
idle-upgrade {X} T s x only counts is = record {
  ends = subst (λ (z : Status). RaisesLog T z x x) (sym is)
      (record { silent = record { said = refl; quiet = refl }; reads = refl });
  counted = idle-counted T s 0 x is;
  found = raising-still T x only counts;
}

idle-run : {X : Type 0} (T : Ghosts X) (s : Status) (limit r : ℕ) (left : Option (List ℕ)) (x : X) → FindsNow T x
    → CountsNow T x → s ≡ status.NoMemory → EndsRun T s limit r r left left x x
idle-run {X} T s limit r left x only counts is = record {
  ends = inl (unopened-still T s x is only counts);
  counted = idle-counted T s r x is;
}

-- such a call owes no more, where accepted words end so for want of memory alone
pub idle-serves : {Y X : Type 0} (S : source.Ghosts Y) (T : Ghosts X) (o : Option Job) (s : Status) (y : Y) (x : X)
    → FindsNow T x → CountsNow T x → (s ≡ status.Usage) ⊎ (s ≡ status.NoMemory)
    → ((m : JobMode) → AsksFor m o → s ≡ status.NoMemory) → Serves S T o s y y x x
idle-serves {Y} {X} S T o s y x only counts refused memory = record {
  refused = λ none. refused;
  untouched = λ none. (refl, refl);
  unread = λ other. refl;
  play = λ asked. idle-play T s (2 ^ 62) (S.faults y) (S.left y) x only counts (memory mode.Play asked);
  load = line-each (λ line. EndsLoad T s line x x) o
      (λ asked line. idle-load T s line x only counts (memory mode.Load asked));
  init = λ asked. idle-init T s x only counts (memory mode.Init asked);
  check = λ asked. idle-check T s x only counts (memory mode.Check asked);
  upgrade = λ asked. idle-upgrade T s x only counts (memory mode.Upgrade asked);
  run = λ asked. idle-run T s (2 ^ 62) (S.faults y) (S.left y) x only counts (memory mode.Run asked);
}

-- words of no job are such
pub refused-serves : {Y X : Type 0} (S : source.Ghosts Y) (T : Ghosts X) (o : Option Job) (f : WordsFault)
    (s : Status) (y : Y) (x : X) → FindsNow T x → CountsNow T x → s ≡ words_status f
    → (f ≡ fault.Usage → o ≡ None) → Serves S T o s y y x x
refused-serves {Y} {X} S T o f s y x only counts is usage =
    idle-serves S T o s y x only counts (words-refused f s is)
    (λ m asked. words-memory f s is (λ other. none-not_asked o m (usage other) asked))
