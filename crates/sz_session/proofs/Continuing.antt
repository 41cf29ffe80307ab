-- Mode run: a log is opened, and a session goes on from it.
--
-- The key idea: to put the disk where a stop leaves it, and to read it, changes no image and says nothing; so what a
-- stop finds of the lines that are answered then is found from the start of the call.
use Rattle.std.proofs.Common.{◌≡◌, ℕ, List, true, false, refl, sym, ◌∙◌, subst, Option, Some, None, true≢false}
use Rattle.std.specs.Prelude.{Result, Ok, Err, OnOk, is_ok, is_err}
use Rattle.sz_outside.specs.Counts.{faults_after}
use Rattle.sz_outside.specs.Outside.{Rose, Stood}
use Rattle.sz_outside.specs.Disk.{Same, Said}
use Rattle.sz_outside.specs.declared.stations.Station.{Ghosts}
use Rattle.sz_catalogue.specs.Holdings.{Holdings}
use Rattle.sz_recover.specs.Logs.{Kept, IsMade, IsNoLog, IsBroken, SaysWhy, has_read}
use Rattle.sz_recover.specs.declared.opening.RecoverFault.{RecoverFault}
use Rattle.sz_recover.specs.declared.opening.RecoverFault.TheVariants as recover
use Rattle.sz_commands.specs.Stops.{StopsFinding}
use Rattle.sz_commands.specs.Logged.{IsLogOf, Grows, GoesOn}
use Rattle.sz_commands.specs.States.{SessionState, LogPlace}
use Rattle.sz_commands.specs.Lines.{lines_of}
use Rattle.sz_commands.specs.Transcript.{after_lines}
use Rattle.sz_feed.specs.Running.{FindsAll, StandsBehind, state_of_log}
use Rattle.sz_session.specs.Continuing.{IsUnopened, EndsUnopened, EndsOpened}
use Rattle.sz_session.specs.Statuses.{recover_status, EndsLines, AreCounted}
use Rattle.sz_session.specs.declared.serving.Status.{Status}
use Rattle.sz_session.specs.declared.serving.Status.TheVariants as status
use Rattle.sz_commands.proofs.Stops.{pass-still}
use Rattle.sz_feed.proofs.Passes.{FindsNow, CountsNow}
use Rattle.sz_feed.proofs.Running.{finds-before}

-- ---- no log

-- no memory, before any call
pub unopened-still : {X : Type 0} (T : Ghosts X) (s : Status) (a : X) → s ≡ status.NoMemory
    → FindsNow T a → CountsNow T a → EndsUnopened T s a a
unopened-still {X} T s a is only counts = record {
  why = subst (IsUnopened (T.disk a)) (sym is) tt;
  silent = record { said = refl; quiet = refl };
  reads = refl;
  stops = pass-still (T.disk a) (T.said a) (T.moment a) (T.left_since a) (T.may_leave a) only counts;
}

-- why it was not opened
why-unopened : (o p : Option (List ℕ)) (f : RecoverFault) → p ≡ o → SaysWhy p f → IsUnopened o (recover_status f)
why-unopened o p recover.Failed is why = tt
why-unopened o p recover.NotALog is why = subst IsNoLog is why
why-unopened o p (recover.BadLog at) is why = subst (λ (x : Option (List ℕ)). IsBroken x at) is why
why-unopened o p recover.NoMemory is why = tt

pub unopened : {X : Type 0} (T : Ghosts X) (f : RecoverFault) (a b c : X) → T.disk b ≡ T.disk a → T.disk c ≡ T.disk b
    → T.said c ≡ T.said a → Stood (T.say_faults a) (T.say_faults c) → SaysWhy (T.disk b) f
    → StopsFinding T Same (Said (T.said a)) a c → EndsUnopened T (recover_status f) a c
unopened {X} T f a b c first second said quiet why stops = record {
  why = why-unopened (T.disk a) (T.disk b) f first why;
  silent = record { said = said; quiet = quiet };
  reads = second ∙ first;
  stops = stops;
}

-- and what was counted then
pub unopened-counted : {X : Type 0} (T : Ghosts X) (f : RecoverFault) (r : ℕ) (a b : X)
    → T.say_faults b ≡ T.say_faults a → (f ≡ recover.Failed → Rose (T.disk_faults a) (T.disk_faults b))
    → (has_read {X = Unit {0}} (Err f) ≡ true → Stood (T.disk_faults a) (T.disk_faults b))
    → AreCounted T (recover_status f) r r a b
unopened-counted {X} T recover.Failed r a b says rose stood = (refl, says, rose refl)
unopened-counted {X} T recover.NotALog r a b says rose stood = (refl, says, stood refl)
unopened-counted {X} T (recover.BadLog at) r a b says rose stood = (refl, says, stood refl)
unopened-counted {X} T recover.NoMemory r a b says rose stood = (refl, says, stood refl)

-- ---- a log

-- a log that goes on from a station goes on from one before it too, where the disk reads alike
behind-before : {X : Type 0} (T : Ghosts X) (s : SessionState) (at : LogPlace) (left : Option (List ℕ)) (a b x : X)
    → T.disk b ≡ T.disk a → StandsBehind T s (Some at) left b x → StandsBehind T s (Some at) left a x
behind-before {X} T s at None a b x reads behind = tt
behind-before {X} T s at (Some bytes) a b x reads behind =
    let d = (after_lines s (lines_of bytes)).held in
    let G : Option (List ℕ) → Type 0 = λ o. Grows o at s.held (T.disk x) behind.0 d in
    let goes : GoesOn T s.held at d behind.0 a x =
    record { grows = subst G reads behind.1.grows; synced = behind.1.synced } in
    (behind.0, goes)

-- what was so since the log was opened is so from the start of the call
pub opened : {X : Type 0} (T : Ghosts X) (s : Status) (limit : ℕ) (at : LogPlace) (c : Holdings) (kept : List Kept)
    (left rest : Option (List ℕ)) (a b x : X) → T.disk b ≡ T.disk a → T.said b ≡ T.said a
    → StopsFinding T Same (Said (T.said a)) a b → IsMade (T.disk a) at.gate at.format c kept → IsLogOf T c at b
    → EndsLines (state_of_log c kept) s limit left rest (T.said b) (T.said x)
    → (s ≡ status.Done → StandsBehind T (state_of_log c kept) (Some at) left b x)
    → FindsAll T (state_of_log c kept) (Some at) left b x → EndsOpened T s limit left rest a x
opened {X} T s limit at c kept left rest a b x reads said stops made log ends behind found = record {
  at = at;
  c = c;
  kept = kept;
  made = made;
  ends = subst (λ (o : Option (List ℕ)). EndsLines (state_of_log c kept) s limit left rest o (T.said x)) said ends;
  behind = λ done. behind-before T (state_of_log c kept) at left a b x reads (behind done);
  found = λ only. finds-before T (state_of_log c kept) at left a b x reads said stops only log found;
}

-- a call that did not fail counts no fault
pub not-failed-counted : {A B : Type 0} (r : Result A B) (n m : ℕ) → is_err r ≡ false → m ≡ faults_after n (is_ok r)
    → m ≡ n
not-failed-counted (Ok a) n m is counted = counted
not-failed-counted (Err b) n m is counted = absurd (true≢false is)

-- what is so of a call that did not fail
pub not-failed : {A B : Type 0} (r : Result A B) (Claim : Type 0) → is_err r ≡ false → OnOk r Claim → Claim
not-failed (Ok a) Claim is claim = claim
not-failed (Err b) Claim is claim = absurd (true≢false is)
