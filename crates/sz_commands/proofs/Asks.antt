-- Asks beside one another: what is so of each when it is begun, worked on and replied to.
use Rattle.std.proofs.Common.{◌≡◌, ℕ, suc, zero, ◌<◌, List, [], ◌∷◌, ◌++◌, length, true}
use Rattle.std.proofs.Common.{None, Some, Option, refl, sym, ap, ◌∙◌, subst, arith, get_or}
use Rattle.std.specs.Prelude.{slice_set}
use Rattle.std.specs.List.{AllZip, AllByRecursion}
use Rattle.sz_script.specs.declared.command.Command.{Command}
use Rattle.sz_script.specs.declared.command.Command.TheVariants as command
use Rattle.sz_script.specs.declared.refusal.Refusal.{Refusal}
use Rattle.sz_query.specs.declared.path.Found.{Found}
use Rattle.sz_commands.specs.States.{SessionState, logged_of, accepted, after_command, after_judging}
use Rattle.sz_catalogue.specs.Rules.{judged, version_of}
use Rattle.sz_catalogue.specs.Changes.{traced}
use Rattle.sz_catalogue.specs.Responses.{cells}
use Rattle.sz_commands.specs.Commands.{traced_if, traced_along, most_along, traced_for, most_for}
use Rattle.sz_versions.specs.Efforts.{most_traced}
use Rattle.sz_versions.specs.Searches.{Search, IsAnswerTo}
use Rattle.sz_commands.specs.Asks.{IsSearched, IsBegun, IsWorked, IsEnded, IsReplyTo, is_ask}
use Rattle.sz_commands.specs.declared.asking.AskLine.{AskLine}
use Rattle.sz_commands.specs.declared.asking.Asked.{Asked}
use Rattle.sz_commands.specs.declared.asking.Asked.TheVariants as asked
use Rattle.sz_commands.proofs.Sought.{sought}

-- an ask changes nothing that is held
pub ask-stays : (c : SessionState) (ask : Command) → is_ask ask ≡ true → (after_command c ask).0 ≡ c
ask-stays c (command.Ask n dir path named) is = at (judged c.held (command.Ask n dir path named)) where
  at : (rule : Option Refusal) → (after_judging c (command.Ask n dir path named) rule).0 ≡ c
  at None = refl
  at (Some rule) = refl
ask-stays c _ is = cc

-- ---- one ask

-- what was found for a search is the reply to its line
searched-reply : (c : SessionState) (l : AskLine) (n : ℕ) (s : Search) (f : Found) → IsSearched c l n s → IsAnswerTo s f
    → IsReplyTo c l f.cells f.traced
searched-reply c l n s f h a =
    let v = version_of c.held h.version in
    let found = sought (logged_of c h.version) v h.dir h.path h.named s f h.search a in
    let along : traced_for c l.ask ≡ traced v h.dir h.path =
    ap (λ (o : Option Refusal). traced_if o (traced_along c l.ask)) h.judged ∙ ap (traced_along c) h.is in
    let most : most_for c l.ask ≡ most_traced v h.dir h.path =
    ap (λ (o : Option Refusal). traced_if o (most_along c l.ask)) h.judged ∙ ap (most_along c) h.is in
    record {
      reply = ap (λ (o : Option Refusal). (after_judging c l.ask o).1) h.judged
          ∙ ap (λ (x : Command). (accepted c x).1) h.is
          ∙ sym (ap cells found.cells);
      least = omega (arith, along, found.least);
      most = omega (arith, most, found.most);
      few = a.few;
    }

-- an ask that was begun, and then worked on
begun-worked : (c : SessionState) (l : AskLine) (a b : Asked) → IsBegun c l a → IsWorked a b → IsEnded c l b
begun-worked c l (asked.Refused rule) b h w = subst (IsEnded c l) (sym w) h
begun-worked c l (asked.Open n s) (asked.Done found tally) h w =
    subst (λ (k : ℕ). IsReplyTo c l found.cells k) (sym w.1) (searched-reply c l n s found h w.0)
begun-worked c l (asked.Open n s) asked.Lost h w = tt
begun-worked c l (asked.Open n s) (asked.Refused rule) h w = absurd w
begun-worked c l (asked.Open n s) (asked.Open m t) h w = absurd w
begun-worked c l (asked.Done found tally) b h w = absurd h
begun-worked c l asked.Lost b h w = absurd h

-- ---- all of them

pub all-worked : (c : SessionState) (lines : List AskLine) (old new : List Asked) → AllZip (IsBegun c) lines old
    → AllZip IsWorked old new → AllZip (IsEnded c) lines new
all-worked c [] [] [] h w = tt
all-worked c [] [] (b ∷ new) h w = absurd w
all-worked c [] (a ∷ old) new h w = absurd h
all-worked c (l ∷ lines) [] new h w = absurd h
all-worked c (l ∷ lines) (a ∷ old) [] h w = absurd w
all-worked c (l ∷ lines) (a ∷ old) (b ∷ new) h w =
    (begun-worked c l a b h.0 w.0, all-worked c lines old new h.1 w.1)

-- two lists of one length are zipped where they are at each place
pub zip-each : {X : Type 0} (R : X → X → Type 0) (xs ys : List X) → length ys ≡ length xs
    → ((i : ℕ) (d : X) → i < length xs → R (get_or xs i d) (get_or ys i d)) → AllZip R xs ys
zip-each R [] [] long each = tt
zip-each R [] (y ∷ ys) long each = absurd (omega (arith, long))
zip-each R (x ∷ xs) [] long each = absurd (omega (arith, long))
zip-each R (x ∷ xs) (y ∷ ys) long each =
    (each 0 x (omega arith), zip-each R xs ys (omega (arith, long)) (λ i d lt. each (suc i) d (omega (arith, lt))))

-- what is so of each of some things is so of the one at a place
pub each-at : {X : Type 0} (P : X → Type 0) (xs : List X) (i : ℕ) (x : X) → AllByRecursion P xs → i < length xs
    → x ≡ get_or xs i x → P x
each-at P [] i x all lt is = absurd (omega (arith, lt))
each-at P (y ∷ xs) zero x all lt is = rw is all.0
each-at P (y ∷ xs) (suc i) x all lt is = each-at P xs i x all.1 (omega (arith, lt)) is

-- and of one more
pub each-more : {X : Type 0} (P : X → Type 0) (xs : List X) (x : X) → AllByRecursion P xs → P x
    → AllByRecursion P (xs ++ x ∷ [])
each-more P [] x all one = (one, tt)
each-more P (y ∷ xs) x all one = (all.0, each-more P xs x all.1 one)

-- at a place
pub zip-at : {X Y : Type 0} (R : X → Y → Type 0) (xs : List X) (ys : List Y) (i : ℕ) (x : X) (y : Y) → AllZip R xs ys
    → i < length xs → x ≡ get_or xs i x → y ≡ get_or ys i y → R x y
zip-at R [] ys i x y zip lt p q = absurd (omega (arith, lt))
zip-at R (w ∷ xs) [] i x y zip lt p q = absurd zip
zip-at R (w ∷ xs) (z ∷ ys) zero x y zip lt p q = rw (p, q) zip.0
zip-at R (w ∷ xs) (z ∷ ys) (suc i) x y zip lt p q = zip-at R xs ys i x y zip.1 (omega (arith, lt)) p q

-- with another one at a place, of which it is so whatever stands beside it
pub zip-set : {X Y : Type 0} (R : X → Y → Type 0) (xs : List X) (ys : List Y) (i : ℕ) (y : Y) → AllZip R xs ys
    → ((x : X) → R x y) → AllZip R xs (slice_set ys i y)
zip-set R [] [] i y zip any = tt
zip-set R [] (z ∷ ys) i y zip any = absurd zip
zip-set R (x ∷ xs) [] i y zip any = absurd zip
zip-set R (x ∷ xs) (z ∷ ys) zero y zip any = (any x, zip.1)
zip-set R (x ∷ xs) (z ∷ ys) (suc i) y zip any = (zip.0, zip-set R xs ys i y zip.1 any)
