-- What a turn did, from what the seat knew when it had the store and what it knew when it gave it back.
use Rattle.std.proofs.Common.{◌≡◌, ℕ, ◌<◌, List, ◌∷◌, [], ◌++◌, Bool, true, false, sym, refl, ap, ap₂, ◌∙◌, subst}
use Rattle.std.specs.Prelude.{Result, Ok, Err, IfOk, Option, Some, None, if◌then◌else◌}
use Rattle.std.specs.Option.{option_map_or}
use mathlib.Core.Bool.{true≢false}
use Rattle.atomic_table.specs.Seated.{TableId}
use Rattle.sz_store.specs.Kept.{NodeLineage}
use Rattle.sz_cells.specs.declared.NoMemory.{NoMemory}
use Rattle.sz_shelf.specs.Tags.{Tag, tag_pieces}
use Rattle.sz_shelf.specs.Contents.{is_in, missing_in}
use Rattle.sz_shelf.specs.declared.rule.View.{View}
use Rattle.sz_shelf.specs.declared.answers.Placed.{Placed}
use Rattle.sz_shelf.specs.declared.answers.Placed.TheVariants as placed
use Rattle.sz_shelf.specs.declared.answers.SealReply.{SealReply}
use Rattle.sz_shelf.specs.declared.answers.SealReply.TheVariants as seal
use Rattle.sz_shelf.specs.Rule.{Own, Begins, ArePieces}
use Rattle.sz_shelf.specs.Steps.{after_release}
use Rattle.sz_shelf.specs.Turns.{Entered}
use Rattle.sz_shelf.specs.Answers.{place_answer, seal_answer}
use Rattle.sz_shelf.specs.Passes.{Onlooker, onlooker, TookTurn, Stays}
use Rattle.sz_shelf.proofs.Lists.{begins-all, begins-push, begins-through, pieces-push}

pub turn-told : (z : TableId) (v w y : View) (k l : Option NodeLineage) → Entered v w → Stays w y
    → TookTurn (onlooker z v k) (onlooker z y l)
turn-told z v w y k l e s =
    let tag : w.tag ≡ v.tag = ap (λ (x : View). x.tag) e.after in
    let found : y.found ≡ w.seen = s.found ∙ ap (λ (x : View). x.found) e.after in
    let found_sealed : y.found_sealed ≡ w.saw = s.found_sealed ∙ ap (λ (x : View). x.found_sealed) e.after in record {
      place = ap (λ (t : Tag). record { table = z; tag = t }) (s.tag ∙ tag);
      turns = s.turns ∙ ap (λ (x : View). x.turns) e.after;
      loads = s.loads ∙ ap (λ (x : View). x.loads) e.after;
      splits = s.splits ∙ ap (λ (x : View). x.splits) e.after;
      found = subst (Begins v.seen) (sym found) e.begins;
      grown = subst (λ l. Begins l y.seen) (sym found) s.grown;
      begins = begins-through v.seen w.seen y.seen e.begins s.grown;
      pieces = subst (λ (t : Tag). ArePieces t y.seen) tag s.pieces;
      sealed = λ h. found_sealed ∙ e.saw h;
      saw = λ h. s.saw (sym found_sealed ∙ h);
      whole = λ h. subst (λ (t : Tag). missing_in (tag_pieces t) y.seen ≡ None) tag (s.whole h);
    }

-- the seat has seen what it found and maybe more, and all else that it knows stays
seen-stays : (w : View) (seen : List ℕ) (saw : Bool) → Begins w.seen seen → ArePieces w.tag seen
    → (w.saw ≡ true → saw ≡ true) → (saw ≡ true → missing_in (tag_pieces w.tag) seen ≡ None)
    → Stays w (record w { seen = seen; saw = saw })
seen-stays w seen saw grown pieces more whole = record {
  tag = refl;
  turns = refl;
  loads = refl;
  splits = refl;
  found = refl;
  found_sealed = refl;
  grown = grown;
  pieces = pieces;
  saw = more;
  whole = whole;
}

-- the seat knows what it knew
pub same-stays : (v w : View) → Entered v w → Stays w w
same-stays v w e =
    let tag : w.tag ≡ v.tag = ap (λ (x : View). x.tag) e.after in
    seen-stays w w.seen w.saw (begins-all w.seen) (subst (λ (t : Tag). ArePieces t w.seen) (sym tag) e.pieces) (λ h. h)
    (λ h. subst (λ (t : Tag). missing_in (tag_pieces t) w.seen ≡ None) (sym tag) (e.whole h))

pub equal-stays : (v w y : View) → Entered v w → y ≡ w → Stays w y
equal-stays v w y e same = subst (Stays w) (sym same) (same-stays v w e)

-- where a piece is new, there was no seal, and it was not placed
abbrev pub is-new : Placed → Bool
is-new placed.New = true
is-new _ = false

pub new-piece : (found sealed : _) (piece : ℕ) → placed.New ≡ place_answer piece found sealed
    → (sealed ≡ false) × (is_in found piece ≡ false)
new-piece found true piece is = absurd (true≢false (ap is-new is))
new-piece found false piece is = (refl, by_test (is_in found piece) is) where
  by_test : (b : Bool) → placed.New ≡ (if b then placed.Already else placed.New) → b ≡ false
  by_test true e = absurd (true≢false (ap is-new e))
  by_test false e = refl

abbrev pub is-new-told : Result Placed NoMemory → Bool
is-new-told (Ok p) = is-new p
is-new-told (Err _) = false

pub placed-stays : (v w y : View) (piece : ℕ) (r : Result Placed NoMemory) → Entered v w → piece < tag_pieces w.tag
    → IfOk r (λ p. p ≡ place_answer piece w.seen w.saw)
    → (r ≡ Ok placed.New → y ≡ record w { seen = w.seen ++ piece ∷ [] }) → (¬ (r ≡ Ok placed.New) → y ≡ w)
    → Stays w y
placed-stays v w y piece (Ok placed.New) e inside answer new other =
    let same = same-stays v w e in
    let fresh = new-piece w.seen w.saw piece answer in
    subst (Stays w) (sym (new refl))
    (seen-stays w (w.seen ++ piece ∷ []) w.saw (begins-push w.seen piece)
    (pieces-push w.tag w.seen piece same.pieces fresh.1 inside) (λ h. h) (λ h. absurd (true≢false (sym h ∙ fresh.0))))
placed-stays v w y piece (Ok placed.Already) e inside answer new other =
    equal-stays v w y e (other (λ h. true≢false (sym (ap is-new-told h))))
placed-stays v w y piece (Ok placed.Sealed) e inside answer new other =
    equal-stays v w y e (other (λ h. true≢false (sym (ap is-new-told h))))
placed-stays v w y piece (Err n) e inside answer new other =
    equal-stays v w y e (other (λ h. true≢false (sym (ap is-new-told h))))

abbrev pub is-sealed : SealReply → Bool
is-sealed seal.Sealed = true
is-sealed _ = false

-- a seal was told only where every piece is placed
pub sealed-whole : (found : _) (n : ℕ) → seal.Sealed ≡ seal_answer n found → missing_in n found ≡ None
sealed-whole found n is = by_test (missing_in n found) is where
  by_test : (o : Option ℕ) → seal.Sealed ≡ option_map_or seal.Missing o seal.Sealed → o ≡ None
  by_test None e = refl
  by_test (Some k) e = absurd (true≢false (ap is-sealed e))

pub sealed-stays : (v w y : View) (r : SealReply) → Entered v w → r ≡ seal_answer (tag_pieces w.tag) w.seen
    → (r ≡ seal.Sealed → y ≡ record w { saw = true }) → (¬ (r ≡ seal.Sealed) → y ≡ w) → Stays w y
sealed-stays v w y seal.Sealed e answer sealed missing =
    subst (Stays w) (sym (sealed refl))
    (seen-stays w w.seen true (begins-all w.seen) (same-stays v w e).pieces (λ _. refl)
    (λ _. sealed-whole w.seen (tag_pieces w.tag) answer))
sealed-stays v w y (seal.Missing k) e answer sealed missing =
    equal-stays v w y e (missing (λ h. true≢false (sym (ap is-sealed h))))

-- what a pass knows once its seat has given the store back and is idle
pub turn-of : (p : Onlooker) (z z' : TableId) (v w y : View) (m : Own) (k l : Option NodeLineage)
    → onlooker z v k ≡ p → z' ≡ z → m ≡ (after_release y, []) → Entered v w → Stays w y
    → TookTurn p (onlooker z' m.0 l)
turn-of p z z' v w y m k l is same left e s =
    subst (λ (x : Onlooker). TookTurn x (onlooker z' m.0 l)) is
    (subst (λ (x : Onlooker). TookTurn (onlooker z v k) x)
    (ap₂ (λ (i : TableId) (n : Own). onlooker i n.0 l) (sym same) (sym left))
    (turn-told z v w y k l e s))

-- the tag is that of the pass
pub tag-stays : (p : Onlooker) (z : TableId) (v w : View) (k : Option NodeLineage) → onlooker z v k ≡ p → Entered v w
    → p.tag ≡ w.tag
tag-stays p z v w k is e = sym (ap (λ (x : View). x.tag) e.after ∙ ap (λ (x : Onlooker). x.tag) is)

-- so a piece of the pass's tag is one of the turn's
pub inside-tag : (p : Onlooker) (z : TableId) (v w : View) (k : Option NodeLineage) (piece : ℕ) → onlooker z v k ≡ p
    → Entered v w → piece < tag_pieces p.tag → piece < tag_pieces w.tag
inside-tag p z v w k piece is e h = subst (λ (t : Tag). piece < tag_pieces t) (tag-stays p z v w k is e) h
