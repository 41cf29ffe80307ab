-- What a call does to its station, from one call to the next.
--
-- The key idea: a call ended well or by one of three faults, and each of its words is told case by case; so what a
-- callee told of the same end is told of the caller, once no count rose before it. What a stop finds is told of a
-- session of no log and of one of a log apart, and put together.
use Rattle.std.proofs.Common.{◌≡◌, ℕ, ◌+◌, ◌-◌, ◌<◌, ◌≤◌, List, [], ◌∷◌, ◌++◌, length, get_or, take, drop}
use Rattle.std.proofs.Common.{Option, None, Some, Result, Ok, Err, OnOk, refl, sym, ap, ◌∙◌, subst}
use Rattle.std.proofs.lemmas.Result.{on_ok_weaker}
use Rattle.sz_outside.specs.Outside.{Rose, Says}
use Rattle.sz_outside.specs.declared.stations.Station.{Ghosts}
use Rattle.sz_catalogue.specs.declared.reply.Reply.{Reply}
use Rattle.sz_commands.specs.Asks.{asks_text}
use Rattle.sz_commands.specs.Commands.{Responds}
use Rattle.sz_commands.specs.Faults as faults
use Rattle.sz_commands.specs.States.{SessionState, LogPlace}
use Rattle.sz_commands.specs.Transcript.{replies_to}
use Rattle.sz_commands.specs.declared.asking.AskLine.{AskLine}
use Rattle.sz_commands.specs.declared.session.Stop.{Stop}
use Rattle.sz_commands.specs.declared.session.Stop.TheVariants as stop
use Rattle.sz_feed.specs.Moments.{Moment, cut_after, told_in}
use Rattle.sz_feed.specs.Serving.{SaysFirst, line_to_say}
use Rattle.sz_feed.specs.Disks.{OnlySays}
use Rattle.sz_feed.specs.Waiting.{stop_halt, Waits}
use Rattle.sz_feed.specs.Running.{IfSome, FindsLines, FindsIn, IsBeside, StaysBeside}
use Rattle.sz_feed.specs.Calls.{CountsStand, CountsTell, SaysText, SaysReplies, FindsBehind, IsSaid, IsAnswered}
use Rattle.sz_feed.specs.declared.feed.Halt.{Halt}
use Rattle.sz_feed.specs.declared.feed.Halt.TheVariants as halt
use Rattle.sz_feed.proofs.Turns.{says-nothing, told-line, take-line}
use Rattle.sz_feed.proofs.Passes.{FindsNow, CountsNow}
use Rattle.sz_feed.proofs.Disks.{stays-still, only-front}
use Rattle.sz_feed.proofs.Waiting.{only-waiting}
use Rattle.sz_feed.proofs.Beside.{in-still, in-front, in-more, in-waits, none-stays, stays-none, some-none}

-- ---- how a call ends

-- a call that did not stop
abbrev pub went_on : Result (Unit {0}) Halt
went_on = Ok tt

-- one that stopped so
abbrev pub ended : (A : Type 0) → Halt → Result A Halt
ended A h = Err h

-- it stopped by the same fault, whatever it would have given
pub same-end : (A B : Type 0) (h k : Halt) → ended A h ≡ ended A k → ended B h ≡ ended B k
same-end A B h k is = let one : h ≡ k = cc in ap (λ (x : Halt). ended B x) one

-- a line was not taken, since a session stopped
pub stop-disk : {A : Type 0} (B : Type 0) (r : Result A Stop) (s : Stop) → r ≡ Err s
    → ended B (stop_halt s) ≡ ended B halt.DiskFault → r ≡ Err stop.DiskFault
stop-disk {A} B r stop.DiskFault was is = was
stop-disk {A} B r stop.NoMemory was is = cc

pub stop-no_say : {A : Type 0} (B : Type 0) (r : Result A Stop) (s : Stop) → r ≡ Err s
    → ended B (stop_halt s) ≡ ended B halt.SayFault → ⊥
stop-no_say {A} B r stop.DiskFault was is = cc
stop-no_say {A} B r stop.NoMemory was is = cc

-- ---- counts

-- no count rose in one call, nor in another
pub stand-then : {X : Type 0} (T : Ghosts X) (a b c : X) → CountsStand T a b → CountsStand T b c → CountsStand T a c
stand-then {X} T a b c one two = (two.0 ∙ one.0, two.1 ∙ one.1)

-- none rose before the call
pub counts-then : {X U : Type 0} (T : Ghosts X) (r : Result U Halt) (a b c : X) → CountsStand T a b → CountsTell T r b c
    → CountsTell T r a c
counts-then {X} {U} T (Ok u) a b c one two = stand-then T a b c one two
counts-then {X} {U} T (Err halt.SayFault) a b c one two =
    (subst (λ (n : ℕ). Rose n (T.say_faults c)) one.0 two.0, two.1 ∙ one.1)
counts-then {X} {U} T (Err halt.DiskFault) a b c one two =
    (two.0 ∙ one.0, subst (λ (n : ℕ). Rose n (T.disk_faults c)) one.1 two.1)
counts-then {X} {U} T (Err halt.NoMemory) a b c one two = stand-then T a b c one two

pub said-counts : {X U : Type 0} {r : Result U Halt} {text : List ℕ} (T : Ghosts X) (a b c : X) → CountsStand T a b
    → IsSaid T r text b c → CountsTell T r a c
said-counts {X} {U} {r} {text} T a b c one two = counts-then T r a b c one two.counted

pub answered-counts : {X U : Type 0} {r : Result U Halt} {m n : Moment} {first : List ℕ} {lines : List (List ℕ)}
    (T : Ghosts X) (a b c : X) → CountsStand T a b → IsAnswered T r m n first lines b c → CountsTell T r a c
answered-counts {X} {U} {r} {m} {n} {first} {lines} T a b c one two = counts-then T r a b c one two.counted

-- a line was not taken
pub counts-halt : {X A : Type 0} (B : Type 0) (T : Ghosts X) (r : Result A Stop) (s : Stop) (a b : X) → r ≡ Err s
    → faults.CountsTell T r a b → CountsTell T (ended B (stop_halt s)) a b
counts-halt {X} {A} B T r stop.DiskFault a b was counts =
    subst (λ (e : Result A Stop). faults.CountsTell T e a b) was counts
counts-halt {X} {A} B T r stop.NoMemory a b was counts =
    subst (λ (e : Result A Stop). faults.CountsTell T e a b) was counts

-- ---- what was said

-- a text, by how the call ended
pub text-whole : {U : Type 0} (r : Result U Halt) (a b : Option (List ℕ)) (x : List ℕ) → SaysText r a b x
    → OnOk r (Says a b x)
text-whole {U} (Ok u) a b x says = says
text-whole {U} (Err h) a b x says = tt

-- where nothing was said, and no say failed
pub text-none : (A B : Type 0) (h : Halt) (a b : Option (List ℕ)) (x : List ℕ) → b ≡ a
    → (ended A h ≡ ended A halt.SayFault → ⊥) → SaysText (ended B h) a b x
text-none A B halt.SayFault a b x same silent = absurd (silent refl)
text-none A B halt.DiskFault a b x same silent =
    subst (λ (o : Option (List ℕ)). Says a o []) (sym same) (says-nothing a)
text-none A B halt.NoMemory a b x same silent =
    subst (λ (o : Option (List ℕ)). Says a o []) (sym same) (says-nothing a)

-- the reply of a line
pub text-line : {X U : Type 0} {u : Result U Halt} {bytes : List ℕ} (T : Ghosts X) (m : Moment) (z : SessionState)
    (r : Option Reply) (a b x : X) → IsSaid T u bytes b x → Responds m.held m.pending z r
    → bytes ≡ line_to_say m.number r → T.said b ≡ T.said a → SaysText u (T.said b) (T.said x) bytes
    → SaysText u (T.said a) (T.said x) (told_in m (10 ∷ []))
text-line {X} {U} {u} {bytes} T m z r a b x said replies told same says =
    subst (λ (o : Option (List ℕ)). SaysText u o (T.said x) (told_in m (10 ∷ []))) same
    (subst (λ (ys : List ℕ). SaysText u (T.said b) (T.said x) ys) (told ∙ sym (told-line m z r replies)) says)

-- where memory was refused, the first so many of the replies were said
pub replies-memory : (h : Halt) (a b : Option (List ℕ)) (s : SessionState) (n : ℕ) (lines : List (List ℕ))
    → ended (Unit {0}) h ≡ ended (Unit {0}) halt.NoMemory → SaysFirst a b s n lines
    → SaysReplies (ended (Unit {0}) h) a b s n lines
replies-memory h a b s n lines is first =
    subst (λ (r : Result (Unit {0}) Halt). SaysReplies r a b s n lines) (sym is) first

pub answered-memory : {X : Type 0} (T : Ghosts X) (h : Halt) (m n : Moment) (first : List ℕ) (lines : List (List ℕ))
    (a b : X) → ended (Unit {0}) h ≡ ended (Unit {0}) halt.NoMemory → CountsStand T a b
    → FindsBehind T m.end first m.held m.number lines a b → IsAnswered T (ended (Unit {0}) h) m n first lines a b
answered-memory {X} T h m n first lines a b is counts found =
    subst (λ (r : Result (Unit {0}) Halt). IsAnswered T r m n first lines a b) (sym is)
    (record { counted = counts; plain = λ e other. cc; written = λ other. cc; log = tt; found = found })

-- ---- what a stop finds

-- the two parts of it
pub behind-of : {X : Type 0} (T : Ghosts X) (e : Option LogPlace) (first : List ℕ) (s : SessionState) (n : ℕ)
    (lines : List (List ℕ)) (a b : X) → (e ≡ None → OnlySays T (first ++ replies_to s n lines) a b)
    → IfSome e (λ at. FindsLines T at s n lines a b) → FindsBehind T e first s n lines a b
behind-of {X} T None first s n lines a b none some = none refl
behind-of {X} T (Some at) first s n lines a b none some = some

pub behind-only : {X : Type 0} (T : Ghosts X) (e : Option LogPlace) (first : List ℕ) (s : SessionState) (n : ℕ)
    (lines : List (List ℕ)) (a b : X) → FindsBehind T e first s n lines a b → e ≡ None
    → OnlySays T (first ++ replies_to s n lines) a b
behind-only {X} T None first s n lines a b found is = found
behind-only {X} T (Some at) first s n lines a b found is = cc

pub behind-lines : {X : Type 0} (T : Ghosts X) (e : Option LogPlace) (first : List ℕ) (s : SessionState) (n : ℕ)
    (lines : List (List ℕ)) (a b : X) → FindsBehind T e first s n lines a b
    → IfSome e (λ at. FindsLines T at s n lines a b)
behind-lines {X} T None first s n lines a b found = tt
behind-lines {X} T (Some at) first s n lines a b found = found

-- where no call is made of the station: the call ended well, or there was no memory
pub said-none : {X : Type 0} (T : Ghosts X) (u : Unit {0}) (text : List ℕ) (a : X) → FindsNow T a → CountsNow T a
    → IsSaid T (Ok u) text a a
said-none {X} T u text a only counts =
    record { counted = (refl, refl); plain = λ is. cc; found = stays-still T text a only counts }

pub said-halted : {X : Type 0} (T : Ghosts X) (text : List ℕ) (a : X) → FindsNow T a → CountsNow T a
    → IsSaid T (ended (Unit {0}) halt.NoMemory) text a a
said-halted {X} T text a only counts =
    record { counted = (refl, refl); plain = λ is. cc; found = stays-still T text a only counts }

-- and where a line could not be read
pub answered-halted : {X : Type 0} (T : Ghosts X) (m n : Moment) (first bytes : List ℕ) (a : X) → IsBeside T m a
    → FindsNow T a → CountsNow T a
    → IsAnswered T (ended (Unit {0}) halt.NoMemory) m n first (cut_after m bytes).whole a a
answered-halted {X} T m n first bytes a beside only counts =
    answered-memory T halt.NoMemory m n first (cut_after m bytes).whole a a refl (refl, refl)
    (behind-of T m.end first m.held m.number (cut_after m bytes).whole a a
    (λ e. stays-still T _ a only counts) (in-still T m bytes a beside only counts))

-- the front of some bytes was taken in
pub behind-front : {X : Type 0} (T : Ghosts X) (l : Moment) (xs : List ℕ) (n : ℕ) (a b : X)
    → FindsBehind T l.end [] l.held l.number (cut_after l (take n xs)).whole a b
    → FindsBehind T l.end [] l.held l.number (cut_after l xs).whole a b
behind-front {X} T l xs n a b one =
    behind-of T l.end [] l.held l.number (cut_after l xs).whole a b
    (λ e. only-front T a b l xs n (behind-only T l.end [] l.held l.number (cut_after l (take n xs)).whole a b one e))
    (in-front T l xs n a b (behind-lines T l.end [] l.held l.number (cut_after l (take n xs)).whole a b one))

-- the bytes up to the end of the next line, behind asks that wait
pub behind-next : {X : Type 0} (T : Ghosts X) (l n : Moment) (xs : List ℕ) (start at : ℕ) (waiting : List AskLine)
    (a b c : X) → start ≤ at → at < length xs → get_or xs at 0 ≡ 10
    → FindsBehind T l.end [] l.held l.number (cut_after l (take start xs)).whole a b
    → Waits (T.said a) (T.said b) l n (take start xs ++ take (at - start) (drop start xs)) waiting
    → IfSome n.end (λ at. waiting ≡ []) → StaysBeside T l n a b
    → FindsBehind T n.end (asks_text n.held waiting) n.held n.number (cut_after n (10 ∷ [])).whole b c
    → FindsBehind T l.end [] l.held l.number (cut_after l (take (at + 1) xs)).whole a c
behind-next {X} T l n xs start at waiting a b c le lt is one waits idle goes line =
    let more = take (at - start) (drop start xs) in
    let asks = asks_text n.held waiting in
    let F : List ℕ → Type 0 = λ ys. FindsIn T l ys a c in
    behind-of T l.end [] l.held l.number (cut_after l (take (at + 1) xs)).whole a c
    (λ e. only-waiting T a b c l n n xs start at waiting le lt is
    (behind-only T l.end [] l.held l.number (cut_after l (take start xs)).whole a b one e) waits
    (behind-only T n.end asks n.held n.number (cut_after n (10 ∷ [])).whole b c line (none-stays T l n a b goes e)))
    (subst F (take-line xs start at le lt is)
    (in-waits T l n (take start xs ++ more) (10 ∷ []) waiting a b c
    (in-more T l (take start xs) more a b
    (behind-lines T l.end [] l.held l.number (cut_after l (take start xs)).whole a b one))
    waits idle goes (behind-lines T n.end asks n.held n.number (cut_after n (10 ∷ [])).whole b c line)))

-- the reply of a line that was taken, of a session of no log
pub only-reply : {X : Type 0} (T : Ghosts X) (m : Moment) (z : SessionState) (r : Option Reply) (bytes : List ℕ)
    (a b x : X)
    → Responds m.held m.pending z r → bytes ≡ line_to_say m.number r → b ≡ a → OnlySays T bytes b x
    → OnlySays T (told_in m (10 ∷ [])) a x
only-reply {X} T m z r bytes a b x replies told same says =
    subst (λ (y : X). OnlySays T (told_in m (10 ∷ [])) y x) same
    (subst (λ (ys : List ℕ). OnlySays T ys b x) (told ∙ sym (told-line m z r replies)) says)

-- ---- a session of no log

-- what was said of lines is all that was done
pub answered-none : {X U : Type 0} (T : Ghosts X) (r : Result U Halt) (m n : Moment) (first : List ℕ)
    (lines : List (List ℕ)) (a b : X) → m.end ≡ None → OnOk r (n.end ≡ None)
    → IsSaid T r (first ++ replies_to m.held m.number lines) a b → IsAnswered T r m n first lines a b
answered-none {X} {U} T r m n first lines a b none stays said = record {
  counted = said.counted;
  plain = λ e is. said.plain is;
  written = λ is. absurd (said.plain is);
  log = on_ok_weaker r (λ still. stays-none T m n a b none still) stays;
  found = behind-of T m.end first m.held m.number lines a b (λ e. said.found) (some-none m.end _ none);
}
