-- The generated session: its text is taken in whole and ended, so what was said is its transcript.
--
-- The key idea: what a text tells as it is taken in, and what is told at its end by a moment that is like the one after
-- it, are together the transcript.
use Rattle.std.proofs.Common.{◌≡◌, ℕ, List, [], ◌++◌, Some, refl, sym, ap, ◌∙◌, subst, inl, inr, true, true≢false}
use Rattle.std.specs.Prelude.{Option, ◌⊎◌}
use Rattle.std.proofs.lemmas.Option.{same_Some}
use Rattle.sz_outside.specs.Outside.{Says, Rose}
use Rattle.sz_outside.specs.declared.stations.Station.{Ghosts}
use Rattle.sz_commands.specs.Transcript.{transcript}
use Rattle.sz_feed.specs.Moments.{Moment, moment_before, told_in, moment_after, told_at_end}
use Rattle.sz_feed.specs.Serving.{Advances}
use Rattle.sz_commands.specs.States.{nothing_held}
use Rattle.sz_session.specs.Statuses.{is_of_disk, SaysSummary, AreCounted}
use Rattle.sz_session.specs.declared.serving.Status.{Status}
use Rattle.sz_session.specs.declared.serving.Status.TheVariants as status
use Rattle.sz_feed.proofs.Moments.{transcript-told, told_at_end-alike}
use Rattle.sz_feed.proofs.Turns.{says-then}

-- before the first byte
abbrev start : Moment
start = moment_before nothing_held

-- a text that was taken in and ended told its transcript
pub whole-said : (text : List ℕ) (a b c : Option (List ℕ)) (first m : Moment) → first ≡ start
    → Advances a b first m text → Says b c (told_at_end m) → Says a c (transcript nothing_held text)
whole-said text a b c first m is took end =
    let here : Advances a b start m text = subst (λ (x : Moment). Advances a b x m text) is took in
    let told : told_in start text ++ told_at_end m ≡ transcript nothing_held text =
    ap (λ (xs : List ℕ). told_in start text ++ xs) (told_at_end-alike m (moment_after start text) here.alike)
    ∙ sym (transcript-told nothing_held text) in
    subst (λ (xs : List ℕ). Says a c xs) told
    (says-then a b c (told_in start text) (told_at_end m) here.says end)

-- what was said behind nothing is what is there
pub said-behind_nothing : (old new told : List ℕ) → old ≡ [] → Says (Some old) (Some new) told → new ≡ told
said-behind_nothing old new told none says = same_Some _ _ says ∙ ap (λ (xs : List ℕ). xs ++ told) none

-- ---- statuses

-- none comes of the disk
pub load-not_disk : (s : Status) (line : List ℕ) (a b : Option (List ℕ)) → SaysSummary s line a b
    → is_of_disk s ≡ true → ⊥
load-not_disk status.Done line a b ends is = true≢false (sym is)
load-not_disk status.SayFault line a b ends is = true≢false (sym is)
load-not_disk status.NoMemory line a b ends is = true≢false (sym is)
load-not_disk _ line a b ends is = ends

-- with no fault counted it is done unless memory was refused
pub load-completes : {X : Type 0} (T : Ghosts X) (s : Status) (line : List ℕ) (a b : Option (List ℕ)) (x y : X)
    → SaysSummary s line a b → AreCounted T s 0 0 x y → (Rose (T.say_faults x) (T.say_faults y) → ⊥)
    → (s ≡ status.Done) ⊎ (s ≡ status.NoMemory)
load-completes {X} T status.Done line a b x y ends counted no_say = inl refl
load-completes {X} T status.SayFault line a b x y ends counted no_say = absurd (no_say counted.1)
load-completes {X} T status.NoMemory line a b x y ends counted no_say = inr refl
load-completes {X} T _ line a b x y ends counted no_say = absurd ends
