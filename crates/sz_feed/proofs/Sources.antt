-- The lines of a source, beside a log.
--
-- The key idea: between two reads a stop finds what is between the lines that ended in the bytes so far, from the
-- opening of the session on; a turn goes on from there, and the end of the source from what all bytes left.
use Rattle.std.proofs.Common.{◌≡◌, ℕ, ◌+◌, List, [], ◌∷◌, ◌++◌, take, drop, take-add}
use Rattle.std.proofs.Common.{Option, None, Some, refl, sym, ap, ◌∙◌, subst, inl, arith}
use Rattle.std.proofs.lemmas.List.{take-append-drop, take_all}
use Rattle.sz_outside.specs.Outside.{Gives}
use Rattle.sz_outside.specs.declared.stations.Station.{Ghosts}
use Rattle.sz_catalogue.specs.Holdings.{Holdings}
use Rattle.sz_commands.specs.Lines.{Cut, cut, last_line, lines_of}
use Rattle.sz_commands.specs.States.{SessionState, LogPlace}
use Rattle.sz_commands.specs.Transcript.{after_lines}
use Rattle.sz_feed.specs.Moments.{Moment, moment_before, cut_after, moment_after, Alike, AreAlike}
use Rattle.sz_feed.specs.Serving.{Advances, HasAnswered, Answered, AreAll}
use Rattle.sz_commands.specs.Logged.{IsLogOf, GoesOn}
use Rattle.sz_feed.specs.Running.{IfSome, FindsLines, IsBeside, GoesBeside, StaysBeside, FindsIn, FindsAtEnd}
use Rattle.sz_feed.specs.Running.{FindsRest, FindsNext, FindsAll, StandsBehind}
use Rattle.sz_feed.proofs.Cuts.{before_cut-nothing, lines_of-cut}
use Rattle.sz_feed.proofs.Told.{so_far-advances, given-next}
use Rattle.sz_feed.proofs.LawsSessions.{after_lines-append}
use Rattle.sz_feed.proofs.Moments.{last-alike}
use Rattle.sz_feed.proofs.Passes.{FindsNow, CountsNow}
use Rattle.sz_feed.proofs.Running.{finds-then, finds-longer, finds-last, finds-still}
use Rattle.sz_feed.proofs.Turns.{says-nothing}
use Rattle.sz_feed.proofs.Beside.{in-none, in-still, in-then, in-front, is-moved, stays-from}

-- ---- a turn

some-all : {A : Type 0} (o : Option A) (P : A → Type 0) → ((a : A) → P a) → IfSome o P
some-all {A} None P p = tt
some-all {A} (Some a) P p = p a

-- where no call is made
pub rest-still : {X : Type 0} (T : Ghosts X) (m : Moment) (all : Option (List ℕ)) (total : ℕ) (a : X) → IsBeside T m a
    → FindsNow T a → CountsNow T a → FindsRest T m all total a a
rest-still {X} T m all total a log only counts =
    some-all all _ (λ bytes. in-still T m (drop total bytes) a log only counts)

-- where no read was made
pub all-still : {X : Type 0} (T : Ghosts X) (z : SessionState) (at : LogPlace) (all : Option (List ℕ)) (a : X)
    → IsLogOf T z.held at a
    → FindsNow T a → CountsNow T a → FindsAll T z (Some at) all a a
all-still {X} T z at all a log only counts =
    some-all all _ (λ bytes. finds-still T at z 1 (lines_of bytes) a log only counts)

-- the bytes that a read gave were taken in
pub next-taken : {X : Type 0} (T : Ghosts X) (z : SessionState) (all left next said : Option (List ℕ)) (m : Moment)
    (total count : ℕ) (buffer : List ℕ) (a b : X) → Answered z all left said (T.said a) m total
    → Gives left next buffer count → FindsIn T m (take count buffer) a b → FindsNext T m all total count a b
next-taken {X} T z None left next said m total count buffer a b so_far gives one = tt
next-taken {X} T z (Some bytes) left next said m total count buffer a b so_far gives one =
    let P : List ℕ → Type 0 = λ xs. FindsIn T m xs a b in
    subst P (given-next bytes left next total count buffer so_far.is_left gives).bytes one

pub rest-taken : {X : Type 0} (T : Ghosts X) (m : Moment) (all : Option (List ℕ)) (total count : ℕ) (a b : X)
    → FindsNext T m all total count a b → FindsRest T m all total a b
rest-taken {X} T m None total count a b one = tt
rest-taken {X} T m (Some bytes) total count a b one = in-front T m (drop total bytes) count a b one

-- of a session of no log nothing is claimed
pub next-none : {X : Type 0} (T : Ghosts X) (m : Moment) (all : Option (List ℕ)) (total count : ℕ) (a b : X)
    → m.end ≡ None → FindsNext T m all total count a b
next-none {X} T m all total count a b none =
    some-all all _ (λ bytes. in-none T m (take count (drop total bytes)) a b none)

pub rest-none : {X : Type 0} (T : Ghosts X) (m : Moment) (all : Option (List ℕ)) (total : ℕ) (a b : X)
    → m.end ≡ None → FindsRest T m all total a b
rest-none {X} T m all total a b none = some-all all _ (λ bytes. in-none T m (drop total bytes) a b none)

-- ---- from the opening on

-- what is held as a session begins, and where its log ends
abbrev pub opened : SessionState → Option LogPlace → Moment
opened z e = record { held = z; pending = []; number = 1; end = e }

abbrev pub FindsRead : {X : Type 0} → Ghosts X → SessionState → Option LogPlace → Option (List ℕ) → ℕ → X → X → Type 0
FindsRead T z e all total a b = IfSome all (λ bytes. FindsIn T (opened z e) (take total bytes) a b)

opened-advances : (z : SessionState) (e : Option LogPlace) (bytes : List ℕ) (left a b : Option (List ℕ)) (m : Moment)
    (count : ℕ)
    → HasAnswered z bytes left a b m count → Advances a b (opened z e) m (take count bytes)
opened-advances z e bytes left a b m count h =
    let one = so_far-advances z bytes left a b m count h in
    record {
      says = one.says;
      alike = record { held = one.alike.held; number = one.alike.number; pending = one.alike.pending };
    }

-- nothing was read of a session that was opened
pub answered-opened : (z : SessionState) (e : Option LogPlace) (left said : Option (List ℕ))
    → Answered z left left said said (opened z e) 0
answered-opened z e None said = tt
answered-opened z e (Some bytes) said = record {
  within = omega arith;
  is_left = refl;
  says = says-nothing said;
  alike = record { held = refl; number = omega arith; pending = inl refl };
}

-- before the first read
pub read-start : {X : Type 0} (T : Ghosts X) (z : SessionState) (all left said : Option (List ℕ)) (m : Moment) (a : X)
    → Answered z all left said (T.said a) m 0 → IsBeside T m a
    → FindsNow T a → CountsNow T a → FindsRead T z m.end all 0 a a
read-start {X} T z None left said m a so_far log only counts = tt
read-start {X} T z (Some bytes) left said m a so_far log only counts =
    in-still T (opened z m.end) [] a (is-moved T m (opened z m.end) a (sym so_far.alike.held) refl log) only counts

-- the log went on from the opening
from-opened : {X : Type 0} (T : Ghosts X) (z : SessionState) (bytes : List ℕ) (left said b : Option (List ℕ))
    (l m : Moment)
    (a x : X) → HasAnswered z bytes left said b l 0 → StaysBeside T l m a x → StaysBeside T (opened z l.end) m a x
from-opened {X} T z bytes left said b l m a x so_far goes =
    stays-from T (opened z l.end) l m a x so_far.alike.held refl goes

-- a turn more
pub read-more : {X : Type 0} (T : Ghosts X) (z : SessionState) (all first left said : Option (List ℕ)) (l m : Moment)
    (total count : ℕ) (a b x : X) → said ≡ T.said a → Answered z all first said (T.said a) l 0
    → Answered z all left said (T.said b) m total → StaysBeside T l m a b → FindsRead T z l.end all total a b
    → FindsNext T m all total count b x → FindsRead T z l.end all (total + count) a x
read-more {X} T z None first left said l m total count a b x same start so_far goes one two = tt
read-more {X} T z (Some bytes) first left said l m total count a b x same start so_far goes one two =
    let P : List ℕ → Type 0 = λ xs. FindsIn T (opened z l.end) xs a x in
    let Q : Option (List ℕ) → Type 0 = λ o. Advances o (T.said b) (opened z l.end) m (take total bytes) in
    subst P (sym (take-add total count bytes))
    (in-then T (opened z l.end) m (take total bytes) (take count (drop total bytes)) a b x one
    (subst Q same (opened-advances z l.end bytes left said (T.said b) m total so_far))
    (from-opened T z bytes first said (T.said a) l m a b start goes) two)

-- all bytes, and lines behind them
all-lines : {X : Type 0} (T : Ghosts X) (z : SessionState) (e : Option LogPlace) (bytes : List ℕ) (a b : X)
    → FindsIn T (opened z e) bytes a b → IfSome e (λ at. FindsLines T at z 1 (lines_of bytes) a b)
all-lines {X} T z None bytes a b one = tt
all-lines {X} T z (Some at) bytes a b one =
    let P : List (List ℕ) → Type 0 = λ ls. FindsLines T at z 1 ls a b in
    subst P (sym (lines_of-cut bytes))
    (finds-longer T at z 1 (cut bytes).whole (last_line (cut bytes).last) a b
    (subst P (ap (λ (c : Cut). c.whole) (before_cut-nothing (cut bytes))) one))

-- the session stopped in a turn
pub all-rest : {X : Type 0} (T : Ghosts X) (z : SessionState) (all first left said : Option (List ℕ)) (l m : Moment)
    (total : ℕ) (a b x : X) → said ≡ T.said a → Answered z all first said (T.said a) l 0
    → Answered z all left said (T.said b) m total → StaysBeside T l m a b → FindsRead T z l.end all total a b
    → FindsRest T m all total b x → FindsAll T z l.end all a x
all-rest {X} T z None first left said l m total a b x same start so_far goes one two = tt
all-rest {X} T z (Some bytes) first left said l m total a b x same start so_far goes one two =
    let P : List ℕ → Type 0 = λ xs. FindsIn T (opened z l.end) xs a x in
    let Q : Option (List ℕ) → Type 0 = λ o. Advances o (T.said b) (opened z l.end) m (take total bytes) in
    all-lines T z l.end bytes a x
    (subst P (take-append-drop total bytes)
    (in-then T (opened z l.end) m (take total bytes) (drop total bytes) a b x one
    (subst Q same (opened-advances z l.end bytes left said (T.said b) m total so_far))
    (from-opened T z bytes first said (T.said a) l m a b start goes) two))

last-in : {X : Type 0} (T : Ghosts X) (z : SessionState) (e f : Option LogPlace) (bytes : List ℕ) (m : Moment)
    (a b x : X)
    → IfSome e (λ at. FindsLines T at z 1 (cut_after (opened z e) bytes).whole a b)
    → Advances (T.said a) (T.said b) (opened z e) m bytes → GoesBeside T z.held e m.held.held f a b
    → IfSome f (λ at. FindsLines T at m.held m.number (last_line m.pending) b x)
    → IfSome e (λ at. FindsLines T at z 1 (lines_of bytes) a x)
last-in {X} T z None f bytes m a b x one took goes two = tt
last-in {X} T z (Some at) None bytes m a b x one took goes two = absurd goes
last-in {X} T z (Some at) (Some next) bytes m a b x one took goes two =
    let k : Moment = moment_after (opened z (Some at)) bytes in
    let P : List (List ℕ) → Type 0 = λ ls. FindsLines T at z 1 ls a x in
    let Q : SessionState → Type 0 = λ s. GoesOn T z.held at s.held next a b in
    let first : cut_after (opened z (Some at)) bytes ≡ cut bytes = before_cut-nothing (cut bytes) in
    let here : FindsLines T next k.held m.number (last_line m.pending) b x =
    subst (λ (s : SessionState). FindsLines T next s m.number (last_line m.pending) b x) took.alike.held two in
    let there : FindsLines T next k.held k.number (last_line m.pending) b x =
    subst (λ (n : ℕ). FindsLines T next k.held n (last_line m.pending) b x) took.alike.number here in
    subst P (ap (λ (c : Cut). c.whole ++ last_line c.last) first ∙ sym (lines_of-cut bytes))
    (finds-then T at next z 1 (cut_after (opened z (Some at)) bytes).whole (last_line k.pending) a b x
    (subst Q took.alike.held goes) took.says one
    (finds-last T next k.held k.number m.pending k.pending b x took.alike.pending there))

-- the source came to its end
pub all-read : {X : Type 0} (T : Ghosts X) (z : SessionState) (all first left said : Option (List ℕ)) (l m : Moment)
    (total : ℕ) (a b x : X) → said ≡ T.said a → Answered z all first said (T.said a) l 0
    → Answered z all left said (T.said b) m total → AreAll all total → StaysBeside T l m a b
    → FindsRead T z l.end all total a b → FindsAtEnd T m b x → FindsAll T z l.end all a x
all-read {X} T z None first left said l m total a b x same start so_far is_all goes one two = tt
all-read {X} T z (Some bytes) first left said l m total a b x same start so_far is_all goes one two =
    let whole : take total bytes ≡ bytes = take_all total bytes (omega (arith, is_all)) in
    let P : List ℕ → Type 0 = λ xs. FindsIn T (opened z l.end) xs a b in
    let Q : Option (List ℕ) → List ℕ → Type 0 = λ o xs. Advances o (T.said b) (opened z l.end) m xs in
    let took : Q said (take total bytes) = opened-advances z l.end bytes left said (T.said b) m total so_far in
    last-in T z l.end m.end bytes m a b x (subst P whole one)
    (subst (λ (o : Option (List ℕ)). Q o bytes) same (subst (Q said) whole took))
    (from-opened T z bytes first said (T.said a) l m a b start goes) two

-- ---- the log of all lines

-- last lines that are alike leave the same
last-left : (s : SessionState) (a b : List ℕ) → Alike a b → after_lines s (last_line a) ≡ after_lines s (last_line b)
last-left s a b alike =
    ap (after_lines s) (sym (one_last a)) ∙ (last-alike 1 s 1 a b alike).1 ∙ ap (after_lines s) (one_last b) where
      one_last : (xs : List ℕ) → take 1 (last_line xs) ≡ last_line xs
      one_last [] = refl
      one_last (x ∷ xs) = refl

-- what is held behind all lines of a text is what the last line leaves of what its whole lines left
held-last : (z : SessionState) (bytes : List ℕ) (m : Moment) → AreAlike m (moment_after (moment_before z) bytes)
    → after_lines m.held (last_line m.pending) ≡ after_lines z (lines_of bytes)
held-last z bytes m alike =
    let k : Moment = moment_after (moment_before z) bytes in
    let first : cut_after (moment_before z) bytes ≡ cut bytes = before_cut-nothing (cut bytes) in
    let whole : List (List ℕ) = (cut_after (moment_before z) bytes).whole in
    ap (λ (s : SessionState). after_lines s (last_line m.pending)) alike.held
    ∙ last-left k.held m.pending k.pending alike.pending
    ∙ sym (after_lines-append z whole (last_line k.pending))
    ∙ ap (λ (c : Cut). after_lines z (c.whole ++ last_line c.last)) first
    ∙ ap (after_lines z) (sym (lines_of-cut bytes))

behind-from : {X : Type 0} (T : Ghosts X) (c d h : Holdings) (e f : Option LogPlace) (a x : X)
    → GoesBeside T c e d f a x
    → d ≡ h → IfSome e (λ at. (next : LogPlace) × GoesOn T c at h next a x)
behind-from {X} T c d h None f a x goes same = tt
behind-from {X} T c d h (Some at) None a x goes same = absurd goes
behind-from {X} T c d h (Some at) (Some next) a x goes same =
    (next, subst (λ (k : Holdings). GoesOn T c at k next a x) same goes)

-- All bytes were read, and what is held at last is what is held behind the line that had not ended. So the log went on
-- to what is durable behind all lines.
pub all-behind : {X : Type 0} (T : Ghosts X) (z : SessionState) (all first left said b q : Option (List ℕ))
    (l m n : Moment)
    (total : ℕ) (a x : X) → Answered z all first said b l 0 → Answered z all left said q m total → AreAll all total
    → StaysBeside T l n a x → n.held.held ≡ (after_lines m.held (last_line m.pending)).held
    → StandsBehind T z l.end all a x
all-behind {X} T z None first left said b q l m n total a x start so_far is_all goes held = tt
all-behind {X} T z (Some bytes) first left said b q l m n total a x start so_far is_all goes held =
    let whole : take total bytes ≡ bytes = take_all total bytes (omega (arith, is_all)) in
    let P : List ℕ → Type 0 = λ xs. AreAlike m (moment_after (moment_before z) xs) in
    behind-from T z.held n.held.held (after_lines z (lines_of bytes)).held l.end n.end a x
    (from-opened T z bytes first said b l n a x start goes)
    (held ∙ ap (λ (s : SessionState). s.held) (held-last z bytes m (subst P whole so_far.alike)))
