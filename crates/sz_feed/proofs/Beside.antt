-- A feed beside its log.
--
-- The key idea: a feed of no log owes nothing, and of a session of a log each call is one of lines that were answered:
-- none, the one that ended, or those of a call and then those of another, from the moment that the first left.
use Rattle.std.proofs.Common.{◌≡◌, ℕ, ◌<◌, List, [], ◌∷◌, ◌++◌, length, take, drop}
use Rattle.std.proofs.Common.{Option, None, Some, refl, sym, ap, ◌∙◌, subst, inl, inr, arith}
use Rattle.std.proofs.lemmas.Bool.{cases_Bool}
use Rattle.std.proofs.lemmas.List.{take-append-drop}
use Rattle.sz_outside.specs.Outside.{Says}
use Rattle.sz_outside.specs.declared.stations.Station.{Ghosts}
use Rattle.sz_script.specs.Reading.{reading}
use Rattle.sz_catalogue.specs.Holdings.{Holdings}
use Rattle.sz_commands.specs.Lines.{Cut, is_blank, last_line}
use Rattle.sz_commands.specs.States.{SessionState, LogPlace, apart}
use Rattle.sz_commands.specs.Transcript.{replies_to, after_lines}
use Rattle.sz_feed.specs.Moments.{Moment, cut_after, moment_after}
use Rattle.sz_feed.specs.Serving.{Advances, line_to_say}
use Rattle.sz_commands.specs.Commands.{Responds}
use Rattle.sz_catalogue.specs.declared.reply.Reply.{Reply}
use Rattle.sz_feed.specs.Disks.{OnlySays}
use Rattle.sz_commands.specs.Asks.{asks_text}
use Rattle.sz_feed.specs.Waiting.{Waits}
use Rattle.sz_commands.specs.declared.asking.AskLine.{AskLine}
use Rattle.sz_commands.specs.Logged.{IsLogOf, HasLog, GoesOn, KeepsLog, StopsInLog, held_after}
use Rattle.sz_feed.specs.Running.{IfSome, FindsLines, IsBeside, GoesBeside, StaysBeside, FindsIn, FindsAtEnd}
use Rattle.sz_commands.proofs.Logged.{log-again}
use Rattle.sz_feed.proofs.Moments.{cut_after-parts}
use Rattle.sz_commands.proofs.States.{reading-apart}
use Rattle.sz_feed.proofs.Turns.{line-only, told-line, moment-line, says-nothing}
use Rattle.sz_feed.proofs.Passes.{FindsNow, CountsNow}
use Rattle.sz_feed.proofs.Running.{goes-then, goes-still, goes-said, finds-then, finds-longer, finds-alike}
use Rattle.sz_feed.proofs.Running.{finds-still, finds-taken, finds-said}

-- ---- the log

beside-none : {X : Type 0} (T : Ghosts X) (c d : Holdings) (e f : Option LogPlace) (a b : X) → e ≡ None → f ≡ None
    → GoesBeside T c e d f a b
beside-none {X} T c d None None a b plain none = tt
beside-none {X} T c d None (Some at) a b plain none = cc
beside-none {X} T c d (Some at) f a b plain none = cc

-- a session of no log stays one
pub stays-none : {X : Type 0} (T : Ghosts X) (m n : Moment) (a b : X) → m.end ≡ None → n.end ≡ None
    → StaysBeside T m n a b
stays-none {X} T m n a b plain none = beside-none T m.held.held n.held.held m.end n.end a b plain none

beside-again : {X : Type 0} (T : Ghosts X) (c d : Holdings) (e f : Option LogPlace) (a b : X) → HasLog T c e a
    → GoesBeside T c e d f a b → HasLog T d f b
beside-again {X} T c d None None a b log goes = tt
beside-again {X} T c d None (Some n) a b log goes = absurd goes
beside-again {X} T c d (Some at) None a b log goes = absurd goes
beside-again {X} T c d (Some at) (Some n) a b log goes = log-again T c d (Some at) (Some n) a b log goes

-- the log stands beside the feed again
pub is-again : {X : Type 0} (T : Ghosts X) (m n : Moment) (a b : X) → IsBeside T m a → StaysBeside T m n a b
    → IsBeside T n b
is-again {X} T m n a b log goes = beside-again T m.held.held n.held.held m.end n.end a b log goes

-- a session of no log has none
pub is-none : {X : Type 0} (T : Ghosts X) (m : Moment) (a : X) → m.end ≡ None → IsBeside T m a
is-none {X} T m a plain = none m.end plain where
  none : (e : Option LogPlace) → e ≡ None → HasLog T m.held.held e a
  none None is = tt
  none (Some at) is = cc

beside-then : {X : Type 0} (T : Ghosts X) (c d h : Holdings) (e f g : Option LogPlace) (a b x : X)
    → GoesBeside T c e d f a b
    → GoesBeside T d f h g b x → GoesBeside T c e h g a x
beside-then {X} T c d h None None None a b x one two = tt
beside-then {X} T c d h None None (Some k) a b x one two = two
beside-then {X} T c d h None (Some n) g a b x one two = absurd one
beside-then {X} T c d h (Some at) None g a b x one two = absurd one
beside-then {X} T c d h (Some at) (Some n) None a b x one two = absurd two
beside-then {X} T c d h (Some at) (Some n) (Some k) a b x one two = goes-then T c d h at n k a b x one two

-- one call behind another
pub stays-then : {X : Type 0} (T : Ghosts X) (l m n : Moment) (a b c : X) → StaysBeside T l m a b
    → StaysBeside T m n b c → StaysBeside T l n a c
stays-then {X} T l m n a b c one two =
    beside-then T l.held.held m.held.held n.held.held l.end m.end n.end a b c one two

beside-still : {X : Type 0} (T : Ghosts X) (c : Holdings) (e : Option LogPlace) (a : X) → HasLog T c e a
    → GoesBeside T c e c e a a
beside-still {X} T c None a log = tt
beside-still {X} T c (Some at) a log = goes-still T c at a log

-- where no call is made and nothing is done
pub stays-same : {X : Type 0} (T : Ghosts X) (m n : Moment) (a : X) → m.held.held ≡ n.held.held → m.end ≡ n.end
    → IsBeside T m a → StaysBeside T m n a a
stays-same {X} T m n a held end log =
    let P : Holdings → Type 0 = λ c. GoesBeside T m.held.held m.end c m.end a a in
    let Q : Option LogPlace → Type 0 = λ e. GoesBeside T m.held.held m.end n.held.held e a a in
    subst Q end (subst P held (beside-still T m.held.held m.end a log))

beside-kept : {X : Type 0} (T : Ghosts X) (c d : Holdings) (e f : Option LogPlace) (bytes : List ℕ) (a b x : X)
    → KeepsLog T c e d f a b → OnlySays T bytes b x → GoesBeside T c e d f a x
beside-kept {X} T c d None None bytes a b x keeps says = tt
beside-kept {X} T c d None (Some n) bytes a b x keeps says = absurd keeps
beside-kept {X} T c d (Some at) None bytes a b x keeps says = absurd keeps
beside-kept {X} T c d (Some at) (Some n) bytes a b x keeps says = goes-said T c d at n bytes a b x keeps says

-- a line was taken, and its reply said
pub stays-kept : {X : Type 0} (T : Ghosts X) (m z : Moment) (bytes : List ℕ) (a b x : X)
    → KeepsLog T m.held.held m.end z.held.held z.end a b → OnlySays T bytes b x → StaysBeside T m z a x
stays-kept {X} T m z bytes a b x keeps says =
    beside-kept T m.held.held z.held.held m.end z.end bytes a b x keeps says

-- a session of no log stays one
pub none-stays : {X : Type 0} (T : Ghosts X) (m n : Moment) (a b : X) → StaysBeside T m n a b → m.end ≡ None
    → n.end ≡ None
none-stays {X} T m n a b goes plain = stays m.end n.end goes plain where
  stays : (e f : Option LogPlace) → GoesBeside T m.held.held e n.held.held f a b → e ≡ None → f ≡ None
  stays None None goes is = refl
  stays None (Some k) goes is = absurd goes
  stays (Some at) f goes is = cc

-- such a session leaves the station where a line is taken
pub kept-none : {X : Type 0} (T : Ghosts X) (c d : Holdings) (e f : Option LogPlace) (a b : X) → KeepsLog T c e d f a b
    → e ≡ None → b ≡ a
kept-none {X} T c d None None a b keeps is = keeps
kept-none {X} T c d None (Some k) a b keeps is = absurd keeps
kept-none {X} T c d (Some at) f a b keeps is = cc

pub stops-none : {X : Type 0} (T : Ghosts X) (c d : Holdings) (e : Option LogPlace) (a b : X) → StopsInLog T c e d a b
    → e ≡ None → b ≡ a
stops-none {X} T c d None a b stops is = stops
stops-none {X} T c d (Some at) a b stops is = cc

-- where nothing waits before a session of a log, nothing is done before its line
pub is-idle : {X : Type 0} (T : Ghosts X) (m : Moment) (Idle : Type 0) (a b : X) → IsBeside T m a
    → IfSome m.end (λ at. Idle) → (Idle → b ≡ a) → IsBeside T m b
is-idle {X} T m Idle a b log idle same = idle_log m.end log idle where
  idle_log : (e : Option LogPlace) → HasLog T m.held.held e a → IfSome e (λ at. Idle) → HasLog T m.held.held e b
  idle_log None log idle = tt
  idle_log (Some at) log idle = subst (λ (x : X). IsLogOf T m.held.held at x) (sym (same idle)) log

-- what is held and where a log ends tell of a moment all that its log owes
pub is-moved : {X : Type 0} (T : Ghosts X) (m k : Moment) (a : X) → k.held ≡ m.held → k.end ≡ m.end → IsBeside T m a
    → IsBeside T k a
is-moved {X} T m k a held end log =
    subst (λ (e : Option LogPlace). HasLog T k.held.held e a) (sym end)
    (subst (λ (s : SessionState). HasLog T s.held m.end a) (sym held) log)

pub stays-from : {X : Type 0} (T : Ghosts X) (m k n : Moment) (a b : X) → k.held ≡ m.held → k.end ≡ m.end
    → StaysBeside T k n a b → StaysBeside T m n a b
stays-from {X} T m k n a b held end goes =
    subst (λ (e : Option LogPlace). GoesBeside T m.held.held e n.held.held n.end a b) end
    (subst (λ (s : SessionState). GoesBeside T s.held k.end n.held.held n.end a b) held goes)

pub stays-to : {X : Type 0} (T : Ghosts X) (m n k : Moment) (a b : X) → k.held ≡ n.held → k.end ≡ n.end
    → StaysBeside T m n a b → StaysBeside T m k a b
stays-to {X} T m n k a b held end goes =
    subst (λ (e : Option LogPlace). GoesBeside T m.held.held m.end k.held.held e a b) (sym end)
    (subst (λ (s : SessionState). GoesBeside T m.held.held m.end s.held n.end a b) (sym held) goes)

-- what holds is claimed of any value
pub some-always : {A : Type 0} (o : Option A) (P : Type 0) → P → IfSome o (λ a. P)
some-always {A} None P p = tt
some-always {A} (Some a) P p = p

pub idle-moved : (e f : Option LogPlace) (P : Type 0) → f ≡ e → IfSome e (λ at. P) → IfSome f (λ at. P)
idle-moved e f P same idle = subst (λ (o : Option LogPlace). IfSome o (λ at. P)) (sym same) idle

-- ---- what is found

-- of a session of no log nothing is claimed
pub some-none : (e : Option LogPlace) (P : LogPlace → Type 0) → e ≡ None → IfSome e P
some-none None P is = tt
some-none (Some at) P is = cc

pub in-none : {X : Type 0} (T : Ghosts X) (m : Moment) (bytes : List ℕ) (a b : X) → m.end ≡ None → FindsIn T m bytes a b
in-none {X} T m bytes a b plain = some-none m.end _ plain

still-in : {X : Type 0} (T : Ghosts X) (s : SessionState) (n : ℕ) (lines : List (List ℕ)) (e : Option LogPlace) (a : X)
    → HasLog T s.held e a → FindsNow T a → CountsNow T a → IfSome e (λ at. FindsLines T at s n lines a a)
still-in {X} T s n lines None a log only counts = tt
still-in {X} T s n lines (Some at) a log only counts = finds-still T at s n lines a log only counts

-- where no call is made no line is answered
pub in-still : {X : Type 0} (T : Ghosts X) (m : Moment) (bytes : List ℕ) (a : X) → IsBeside T m a
    → FindsNow T a → CountsNow T a → FindsIn T m bytes a a
in-still {X} T m bytes a log only counts =
    still-in T m.held m.number (cut_after m bytes).whole m.end a log only counts

pub end-still : {X : Type 0} (T : Ghosts X) (m : Moment) (a : X) → IsBeside T m a
    → FindsNow T a → CountsNow T a → FindsAtEnd T m a a
end-still {X} T m a log only counts = still-in T m.held m.number (last_line m.pending) m.end a log only counts

-- what is held after a line does not depend on where a log ends
held-apart : (s : SessionState) (line : List ℕ)
    → (after_lines s (line ∷ [])).held ≡ (after_lines (apart s) (line ∷ [])).held
held-apart s line = elim (cases_Bool (is_blank line)) [
  | inl blank ↦ rw blank refl
  | inr other ↦ rw other (sym (ap (λ (p : SessionState × _). p.0.held) (reading-apart s (reading line))))
]

-- the moment of a session that has read so much of a line
abbrev moment_with : SessionState → List ℕ → ℕ → Moment
moment_with s line n = record { held = apart s; pending = line; number = n; end = s.end }

only-line : (s : SessionState) (line : List ℕ) (n : ℕ) → line ∷ [] ≡ (cut_after (moment_with s line n) (10 ∷ [])).whole
only-line s line n = sym (ap (λ (c : Cut). c.whole) (line-only (moment_with s line n)))

taken-in : {X : Type 0} (T : Ghosts X) (s : SessionState) (line : List ℕ) (n : ℕ) (e : Option LogPlace) (a b : X)
    → HasLog T s.held e a
    → StopsInLog T s.held e (held_after s line) a b
    → IfSome e (λ at. FindsLines T at (apart s) n (cut_after (moment_with s line n) (10 ∷ [])).whole a b)
taken-in {X} T s line n None a b log stops = tt
taken-in {X} T s line n (Some at) a b log stops =
    subst (λ (ls : List (List ℕ)). FindsLines T at (apart s) n ls a b) (only-line s line n)
    (finds-taken T at (apart s) (held_after s line) n line a b (held-apart s line) log stops)

-- a line was taken, or not, and nothing said
pub in-taken : {X : Type 0} (T : Ghosts X) (s : SessionState) (line given : List ℕ) (n : ℕ) (m : Moment) (a b : X)
    → moment_with s line n ≡ m → given ≡ line → IsBeside T m a → StopsInLog T s.held s.end (held_after s given) a b
    → FindsIn T m (10 ∷ []) a b
in-taken {X} T s line given n m a b is same log stops =
    let own : HasLog T s.held s.end a = subst (λ (k : Moment). IsBeside T k a) (sym is) log in
    let stopped : StopsInLog T s.held s.end (held_after s line) a b =
    subst (λ (ys : List ℕ). StopsInLog T s.held s.end (held_after s ys) a b) same stops in
    subst (λ (k : Moment). FindsIn T k (10 ∷ []) a b) is (taken-in T s line n s.end a b own stopped)

pub only-pending : (m : Moment) → (cut_after m (10 ∷ [])).whole ≡ m.pending ∷ []
only-pending m = ap (λ (c : Cut). c.whole) (line-only m)

said-in : {X : Type 0} (T : Ghosts X) (m z : Moment) (e f : Option LogPlace) (bytes : List ℕ) (a b x : X)
    → IfSome e (λ at. FindsLines T at m.held m.number (cut_after m (10 ∷ [])).whole a b)
    → KeepsLog T m.held.held e z.held.held f a b → z.held.held ≡ (after_lines m.held (m.pending ∷ [])).held
    → bytes ≡ replies_to m.held m.number (m.pending ∷ []) → T.said b ≡ T.said a → OnlySays T bytes b x
    → IfSome e (λ at. FindsLines T at m.held m.number (cut_after m (10 ∷ [])).whole a x)
said-in {X} T m z None f bytes a b x one keeps held told same says = tt
said-in {X} T m z (Some at) None bytes a b x one keeps held told same says = absurd keeps
said-in {X} T m z (Some at) (Some next) bytes a b x one keeps held told same says =
    subst (λ (ls : List (List ℕ)). FindsLines T at m.held m.number ls a x) (sym (only-pending m))
    (finds-said T at next m.held z.held.held m.number m.pending bytes a b x held told same keeps says
    (subst (λ (ls : List (List ℕ)). FindsLines T at m.held m.number ls a b) (only-pending m) one))

-- and then its reply was said, or a part of it
pub in-said : {X : Type 0} (T : Ghosts X) (m z : Moment) (r : Option Reply) (bytes : List ℕ) (a b x : X)
    → FindsIn T m (10 ∷ []) a b → KeepsLog T m.held.held m.end z.held.held z.end a b
    → Responds m.held m.pending z.held r → bytes ≡ line_to_say m.number r → T.said b ≡ T.said a
    → OnlySays T bytes b x → FindsIn T m (10 ∷ []) a x
in-said {X} T m z r bytes a b x one keeps replies told same says =
    said-in T m z m.end z.end bytes a b x one keeps
    (sym (ap (λ (k : Moment). k.held.held) (moment-line m z.held r replies))
    ∙ ap (λ (ls : List (List ℕ)). (after_lines m.held ls).held) (only-pending m))
    (told ∙ sym (told-line m z.held r replies) ∙ ap (replies_to m.held m.number) (only-pending m)) same says

-- nothing waited before
pub in-idle : {X : Type 0} (T : Ghosts X) (m : Moment) (Idle : Type 0) (bytes : List ℕ) (a b x : X)
    → IfSome m.end (λ at. Idle) → (Idle → b ≡ a) → FindsIn T m bytes b x → FindsIn T m bytes a x
in-idle {X} T m Idle bytes a b x idle same one = idle_in m.end idle one where
  idle_in : (e : Option LogPlace) → IfSome e (λ at. Idle)
      → IfSome e (λ at. FindsLines T at m.held m.number (cut_after m bytes).whole b x)
      → IfSome e (λ at. FindsLines T at m.held m.number (cut_after m bytes).whole a x)
  idle_in None idle one = tt
  idle_in (Some at) idle one =
      subst (λ (y : X). FindsLines T at m.held m.number (cut_after m bytes).whole y x) (same idle) one

pub stays-idle : {X : Type 0} (T : Ghosts X) (m n : Moment) (Idle : Type 0) (a b x : X)
    → IfSome m.end (λ at. Idle) → (Idle → b ≡ a) → StaysBeside T m n b x → StaysBeside T m n a x
stays-idle {X} T m n Idle a b x idle same one = idle_stays m.end n.end idle one where
  idle_stays : (e f : Option LogPlace) → IfSome e (λ at. Idle) → GoesBeside T m.held.held e n.held.held f b x
      → GoesBeside T m.held.held e n.held.held f a x
  idle_stays None None idle one = tt
  idle_stays None (Some k) idle one = one
  idle_stays (Some at) f idle one =
      subst (λ (y : X). GoesBeside T m.held.held (Some at) n.held.held f y x) (same idle) one

-- ---- several calls

then-in : {X : Type 0} (T : Ghosts X) (l m : Moment) (e f : Option LogPlace) (xs ys : List ℕ) (a b c : X)
    → IfSome e (λ at. FindsLines T at l.held l.number (cut_after l xs).whole a b)
    → Advances (T.said a) (T.said b) l m xs → GoesBeside T l.held.held e m.held.held f a b
    → IfSome f (λ at. FindsLines T at m.held m.number (cut_after m ys).whole b c)
    → IfSome e (λ at. FindsLines T at l.held l.number (cut_after l (xs ++ ys)).whole a c)
then-in {X} T l m None f xs ys a b c one took goes two = tt
then-in {X} T l m (Some at) None xs ys a b c one took goes two = absurd goes
then-in {X} T l m (Some at) (Some next) xs ys a b c one took goes two =
    let k : Moment = moment_after l xs in
    let P : List (List ℕ) → Type 0 = λ ls. FindsLines T at l.held l.number ls a c in
    let Q : SessionState → Type 0 = λ z. GoesOn T l.held.held at z.held next a b in
    subst P (sym (ap (λ (x : Cut). x.whole) (cut_after-parts l xs ys)))
    (finds-then T at next l.held l.number (cut_after l xs).whole (cut_after k ys).whole a b c
    (subst Q took.alike.held goes) took.says one (finds-alike T next m k ys b c took.alike two))

-- one call and then another
pub in-then : {X : Type 0} (T : Ghosts X) (l m : Moment) (xs ys : List ℕ) (a b c : X) → FindsIn T l xs a b
    → Advances (T.said a) (T.said b) l m xs → StaysBeside T l m a b → FindsIn T m ys b c → FindsIn T l (xs ++ ys) a c
in-then {X} T l m xs ys a b c one took goes two = then-in T l m l.end m.end xs ys a b c one took goes two

-- further bytes that have not come
pub in-more : {X : Type 0} (T : Ghosts X) (l : Moment) (xs ys : List ℕ) (a b : X) → FindsIn T l xs a b
    → FindsIn T l (xs ++ ys) a b
in-more {X} T l xs ys a b one = more l.end one where
  more : (e : Option LogPlace) → IfSome e (λ at. FindsLines T at l.held l.number (cut_after l xs).whole a b)
      → IfSome e (λ at. FindsLines T at l.held l.number (cut_after l (xs ++ ys)).whole a b)
  more None one = tt
  more (Some at) one =
      let P : List (List ℕ) → Type 0 = λ ls. FindsLines T at l.held l.number ls a b in
      subst P (sym (ap (λ (x : Cut). x.whole) (cut_after-parts l xs ys)))
      (finds-longer T at l.held l.number (cut_after l xs).whole (cut_after (moment_after l xs) ys).whole a b one)

-- the front of some bytes was taken in
pub in-front : {X : Type 0} (T : Ghosts X) (l : Moment) (xs : List ℕ) (n : ℕ) (a b : X) → FindsIn T l (take n xs) a b
    → FindsIn T l xs a b
in-front {X} T l xs n a b one =
    let P : List ℕ → Type 0 = λ ys. FindsIn T l ys a b in
    subst P (take-append-drop n xs) (in-more T l (take n xs) (drop n xs) a b one)

-- the line that has not ended is the last where it has bytes
one-line : (xs : List ℕ) → 0 < length xs → xs ∷ [] ≡ last_line xs
one-line [] some = absurd (omega arith)
one-line (x ∷ xs) some = refl

pub only-last : (m : Moment) → 0 < length m.pending → (cut_after m (10 ∷ [])).whole ≡ last_line m.pending
only-last m some = only-pending m ∙ one-line m.pending some

pub end-line : {X : Type 0} (T : Ghosts X) (m : Moment) (a b : X) → 0 < length m.pending → FindsIn T m (10 ∷ []) a b
    → FindsAtEnd T m a b
end-line {X} T m a b some one =
    let P : List (List ℕ) → Type 0 = λ ls. IfSome m.end (λ at. FindsLines T at m.held m.number ls a b) in
    subst P (only-last m some) one

-- where it ended, what is held is what is held behind it
pub end-held : (m n : Moment) (a b : Option (List ℕ)) → 0 < length m.pending → Advances a b m n (10 ∷ [])
    → n.held.held ≡ (after_lines m.held (last_line m.pending)).held
end-held m n a b some took =
    ap (λ (s : SessionState). s.held) took.alike.held
    ∙ ap (λ (ls : List (List ℕ)). (after_lines m.held ls).held) (only-last m some)

-- and a line of no bytes changes nothing
pub end-empty : (m : Moment) → length m.pending ≡ 0
    → m.held.held ≡ (after_lines m.held (last_line m.pending)).held
end-empty m none = empty m.pending none where
  empty : (xs : List ℕ) → length xs ≡ 0 → m.held.held ≡ (after_lines m.held (last_line xs)).held
  empty [] none = refl
  empty (x ∷ xs) none = absurd (omega arith)

-- lines that were taken in behind which nothing waits, and then others
pub in-waits : {X : Type 0} (T : Ghosts X) (l m : Moment) (xs ys : List ℕ) (waiting : List AskLine) (a b c : X)
    → FindsIn T l xs a b → Waits (T.said a) (T.said b) l m xs waiting → IfSome m.end (λ at. waiting ≡ [])
    → StaysBeside T l m a b → FindsIn T m ys b c → FindsIn T l (xs ++ ys) a c
in-waits {X} T l m xs ys waiting a b c one waits idle goes two = waited l.end m.end one idle goes two where
  waited : (e f : Option LogPlace) → IfSome e (λ at. FindsLines T at l.held l.number (cut_after l xs).whole a b)
      → IfSome f (λ at. waiting ≡ []) → GoesBeside T l.held.held e m.held.held f a b
      → IfSome f (λ at. FindsLines T at m.held m.number (cut_after m ys).whole b c)
      → IfSome e (λ at. FindsLines T at l.held l.number (cut_after l (xs ++ ys)).whole a c)
  waited None f one idle goes two = tt
  waited (Some at) None one idle goes two = absurd goes
  waited (Some at) (Some next) one idle goes two =
      let P : List AskLine → Type 0 = λ ls. Says (T.said b) (T.said b) (asks_text m.held ls) in
      then-in T l m (Some at) (Some next) xs ys a b c one
      (waits.told (T.said b) (subst P (sym idle) (says-nothing (T.said b)))) goes two

-- and then nothing is done
pub in-rest : {X : Type 0} (T : Ghosts X) (l m : Moment) (Idle : Type 0) (xs : List ℕ) (a b c : X) → FindsIn T l xs a b
    → StaysBeside T l m a b → IfSome m.end (λ at. Idle) → (Idle → c ≡ b) → FindsIn T l xs a c
in-rest {X} T l m Idle xs a b c one goes idle same = rest l.end m.end one goes idle where
  rest : (e f : Option LogPlace) → IfSome e (λ at. FindsLines T at l.held l.number (cut_after l xs).whole a b)
      → GoesBeside T l.held.held e m.held.held f a b → IfSome f (λ at. Idle)
      → IfSome e (λ at. FindsLines T at l.held l.number (cut_after l xs).whole a c)
  rest None f one goes idle = tt
  rest (Some at) None one goes idle = absurd goes
  rest (Some at) (Some next) one goes idle =
      subst (λ (y : X). FindsLines T at l.held l.number (cut_after l xs).whole a y) (sym (same idle)) one

pub stays-rest : {X : Type 0} (T : Ghosts X) (l m : Moment) (Idle : Type 0) (a b c : X) → StaysBeside T l m a b
    → IfSome m.end (λ at. Idle) → (Idle → c ≡ b) → StaysBeside T l m a c
stays-rest {X} T l m Idle a b c goes idle same = rest l.end m.end goes idle where
  rest : (e f : Option LogPlace) → GoesBeside T l.held.held e m.held.held f a b → IfSome f (λ at. Idle)
      → GoesBeside T l.held.held e m.held.held f a c
  rest None None goes idle = tt
  rest None (Some next) goes idle = goes
  rest (Some at) None goes idle = absurd goes
  rest (Some at) (Some next) goes idle =
      subst (λ (y : X). GoesOn T l.held.held at m.held.held next a y) (sym (same idle)) goes
