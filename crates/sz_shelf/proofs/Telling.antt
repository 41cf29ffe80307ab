-- The answers of a shelf are the machine's: its shelf has as many pieces as the tag, so the two look for a piece alike.
use Rattle.std.proofs.Common.{◌≡◌, ℕ, ◌<◌, ◌++◌, ◌∷◌, [], List, Bool, true, false, sym, refl, ap, ap₂, ◌∙◌, length}
use Rattle.std.proofs.Common.{arith}
use Rattle.std.proofs.lemmas.Bool.Decides.{nat_tests}
use Rattle.sz_cells.specs.declared.NoMemory.{NoMemory}
use Rattle.std.specs.Prelude.{Result, Ok, Err, IfOk, Option, Some, None, if◌then◌else◌, nat_lt, ◌&&◌, not, is_none}
use Rattle.std.specs.Option.{option_map_or}
use Rattle.std.proofs.lemmas.List.FromFn.{length-map-range_with_len}
use mathlib.Core.Bool.{true≢false}
use Rattle.sz_cells.specs.Cells.{Cells}
use Rattle.sz_spec.specs.declared.modes.Dir.{Dir}
use Rattle.sz_spec.specs.declared.modes.Strategy.{Strategy}
use Rattle.sz_core.specs.declared.events.Told.TheVariants as told
use Rattle.sz_core.specs.States.{missing_piece}
use Rattle.sz_core.specs.Events.{place_reply, after_place, seal_reply, after_seal, look_reply}
use Rattle.sz_shelf.specs.Tags.{Tag, tag_pieces}
use Rattle.sz_shelf.specs.Contents.{is_in, missing_in}
use Rattle.sz_shelf.specs.declared.answers.Placed.{Placed}
use Rattle.sz_shelf.specs.declared.answers.Placed.TheVariants as placed
use Rattle.sz_shelf.specs.declared.answers.SealReply.{SealReply}
use Rattle.sz_shelf.specs.declared.answers.SealReply.TheVariants as seal
use Rattle.sz_shelf.specs.declared.rule.View.{View}
use Rattle.sz_shelf.specs.Rule.{Own}
use Rattle.sz_shelf.specs.Steps.{after_release}
use Rattle.sz_shelf.specs.Turns.{Entered}
use Rattle.sz_shelf.specs.Passes.{Stays}
use Rattle.sz_shelf.specs.Answers.{place_answer, seal_answer, look_answer}
use Rattle.sz_shelf.specs.Machine.{shelf_of, pairs_of_piece, first_step, told_of_place, told_of_seal, told_of_look}
use Rattle.sz_shelf.proofs.Turning.{new-piece, is-new, is-sealed, sealed-whole}

-- the machine's shelf has the tag's number of pieces
as-many : (t : Tag) (found : List ℕ) (sealed : Bool) → length (shelf_of t found sealed).pieces ≡ tag_pieces t
as-many t found sealed = length-map-range_with_len (pairs_of_piece t) 0 (tag_pieces t)

-- it misses the same piece
pub misses : (t : Tag) (found : List ℕ) (sealed : Bool)
    → missing_piece (shelf_of t found sealed) ≡ missing_in (tag_pieces t) found
misses t found sealed = ap (λ n. missing_in n found) (as-many t found sealed)

inside : (t : Tag) (found : List ℕ) (sealed : Bool) (k : ℕ) → k < tag_pieces t
    → nat_lt k (length (shelf_of t found sealed).pieces) ≡ true
inside t found sealed k h = ap (nat_lt k) (as-many t found sealed) ∙ below k (tag_pieces t) h where
  below : (i n : ℕ) → i < n → nat_lt i n ≡ true
  below i n less = grind (arith, nat_tests)

pub place-told : (t : Tag) (found : List ℕ) (sealed : Bool) (k : ℕ) → k < tag_pieces t
    → told_of_place (place_answer k found sealed) ≡ place_reply k (shelf_of t found sealed)
place-told t found sealed k h = by_cases sealed (is_in found k) ∙ sym (ap (λ (b : Bool). if b
    then (if sealed then told.SealedBefore else if is_in found k then told.Already else told.Placed) else told.NoSuch)
    (inside t found sealed k h)) where
      by_cases : (a b : Bool) → told_of_place (if a then placed.Sealed else if b then placed.Already else placed.New)
          ≡ (if a then told.SealedBefore else if b then told.Already else told.Placed)
      by_cases true b = refl
      by_cases false true = refl
      by_cases false false = refl

already-there : (found : List ℕ) (sealed : Bool) (k : ℕ) → (p : Placed) → ¬ (p ≡ placed.New)
    → p ≡ place_answer k found sealed → (not sealed && not (is_in found k)) ≡ false
already-there found sealed k p old is = by_cases sealed (is_in found k) (λ e. old (is ∙ e)) where
  by_cases : (a b : Bool)
      → ¬ ((if a then placed.Sealed else if b then placed.Already else placed.New) ≡ placed.New)
      → (not a && not b) ≡ false
  by_cases true b e = refl
  by_cases false true e = refl
  by_cases false false e = absurd (e refl)

-- what a place leaves is the machine's state after it
pub place-left : (t : Tag) (found seen : List ℕ) (sealed saw : Bool) (k : ℕ) (p : Placed) → k < tag_pieces t
    → p ≡ place_answer k found sealed → saw ≡ sealed → (p ≡ placed.New → seen ≡ found ++ k ∷ [])
    → (¬ (p ≡ placed.New) → seen ≡ found) → shelf_of t seen saw ≡ after_place k (shelf_of t found sealed)
place-left t found seen sealed saw k placed.New h is same new old =
    let fresh = new-piece found sealed k is in
    ap₂ (shelf_of t) (new refl) same
    ∙ sym (ap (λ (b : Bool). if b then shelf_of t (found ++ k ∷ []) sealed else shelf_of t found sealed)
    (ap₂ (λ a c. a && c) (inside t found sealed k h) (ap₂ (λ a c. not a && not c) fresh.0 fresh.1)))
place-left t found seen sealed saw k placed.Already h is same new old =
    let other : ¬ (placed.Already ≡ placed.New) = λ e. true≢false (sym (ap is-new e)) in
    ap₂ (shelf_of t) (old other) same
    ∙ sym (ap (λ (b : Bool). if b then shelf_of t (found ++ k ∷ []) sealed else shelf_of t found sealed)
    (ap₂ (λ a c. a && c) (inside t found sealed k h) (already-there found sealed k placed.Already other is)))
place-left t found seen sealed saw k placed.Sealed h is same new old =
    let other : ¬ (placed.Sealed ≡ placed.New) = λ e. true≢false (sym (ap is-new e)) in
    ap₂ (shelf_of t) (old other) same
    ∙ sym (ap (λ (b : Bool). if b then shelf_of t (found ++ k ∷ []) sealed else shelf_of t found sealed)
    (ap₂ (λ a c. a && c) (inside t found sealed k h) (already-there found sealed k placed.Sealed other is)))

-- the same of an answer that may be want of memory
pub place-tells : (t : Tag) (found : List ℕ) (sealed : Bool) (k : ℕ) (r : Result Placed NoMemory) → k < tag_pieces t
    → IfOk r (λ p. p ≡ place_answer k found sealed)
    → IfOk r (λ p. told_of_place p ≡ place_reply k (shelf_of t found sealed))
place-tells t found sealed k (Ok p) h is = ap told_of_place is ∙ place-told t found sealed k h
place-tells t found sealed k (Err _) h is = tt

abbrev pub told-ok : Result Placed NoMemory → Placed
told-ok (Ok p) = p
told-ok (Err _) = placed.New

-- a place leaves the seal as it is
saw-same : (w y : View) (k : ℕ) (p : Placed) → (p ≡ placed.New → y ≡ record w { seen = w.seen ++ k ∷ [] })
    → (¬ (p ≡ placed.New) → y ≡ w) → y.saw ≡ w.saw
saw-same w y k placed.New new old = ap (λ (x : View). x.saw) (new refl)
saw-same w y k placed.Already new old = ap (λ (x : View). x.saw) (old (λ e. true≢false (sym (ap is-new e))))
saw-same w y k placed.Sealed new old = ap (λ (x : View). x.saw) (old (λ e. true≢false (sym (ap is-new e))))

pub place-leaves : (w y : View) (k : ℕ) (r : Result Placed NoMemory) → k < tag_pieces w.tag
    → IfOk r (λ p. p ≡ place_answer k w.seen w.saw)
    → (r ≡ Ok placed.New → y ≡ record w { seen = w.seen ++ k ∷ [] }) → (¬ (r ≡ Ok placed.New) → y ≡ w)
    → IfOk r (λ _. shelf_of w.tag y.seen y.saw ≡ after_place k (shelf_of w.tag w.seen w.saw))
place-leaves w y k (Ok p) h is new old =
    let yet : p ≡ placed.New → y ≡ record w { seen = w.seen ++ k ∷ [] } = λ e. new (ap Ok e) in
    let not_yet : ¬ (p ≡ placed.New) → y ≡ w = λ other. old (λ e. other (ap told-ok e)) in
    place-left w.tag w.seen y.seen w.saw y.saw k p h is (saw-same w y k p yet not_yet)
    (λ e. ap (λ (x : View). x.seen) (yet e)) (λ other. ap (λ (x : View). x.seen) (not_yet other))
place-leaves w y k (Err _) h is new old = tt

-- the shelf that a turn found, and the one that it left
pub found-is : (v w y : View) (m : Own) → m ≡ (after_release y, []) → Entered v w → Stays w y
    → shelf_of m.0.tag m.0.found m.0.found_sealed ≡ shelf_of w.tag w.seen w.saw
found-is v w y m left e s =
    ap (λ (n : Own). shelf_of n.0.tag n.0.found n.0.found_sealed) left
    ∙ ap (λ (t : Tag). shelf_of t y.found y.found_sealed) s.tag
    ∙ ap₂ (shelf_of w.tag) (s.found ∙ ap (λ (x : View). x.found) e.after)
    (s.found_sealed ∙ ap (λ (x : View). x.found_sealed) e.after)

pub left-is : (w y : View) (m : Own) → m ≡ (after_release y, []) → Stays w y
    → shelf_of m.0.tag m.0.seen m.0.saw ≡ shelf_of w.tag y.seen y.saw
left-is w y m left s = ap (λ (n : Own). shelf_of n.0.tag n.0.seen n.0.saw) left
    ∙ ap (λ (t : Tag). shelf_of t y.seen y.saw) s.tag

pub seal-told : (t : Tag) (found : List ℕ) (sealed : Bool) (r : SealReply) → r ≡ seal_answer (tag_pieces t) found
    → told_of_seal r ≡ seal_reply (shelf_of t found sealed)
seal-told t found sealed r is =
    ap told_of_seal is ∙ by_cases (missing_in (tag_pieces t) found)
    ∙ ap (λ (o : Option ℕ). option_map_or told.Missing o told.Sealed) (sym (misses t found sealed)) where
      by_cases : (o : Option ℕ)
          → told_of_seal (option_map_or seal.Missing o seal.Sealed) ≡ option_map_or told.Missing o told.Sealed
      by_cases None = refl
      by_cases (Some k) = refl

-- a piece is told as missing only where there is one
missing-some : (found : List ℕ) (n k : ℕ) → seal.Missing k ≡ seal_answer n found
    → is_none (missing_in n found) ≡ false
missing-some found n k is = by_cases (missing_in n found) is where
  by_cases : (o : Option ℕ) → seal.Missing k ≡ option_map_or seal.Missing o seal.Sealed → is_none o ≡ false
  by_cases None e = absurd (true≢false (ap is-sealed (sym e)))
  by_cases (Some j) e = refl

-- what a seal leaves is the machine's state after it
pub seal-left : (t : Tag) (found seen : List ℕ) (sealed saw : Bool) (r : SealReply)
    → r ≡ seal_answer (tag_pieces t) found → seen ≡ found → (r ≡ seal.Sealed → saw ≡ true)
    → (¬ (r ≡ seal.Sealed) → saw ≡ sealed) → shelf_of t seen saw ≡ after_seal (shelf_of t found sealed)
seal-left t found seen sealed saw seal.Sealed is same yet not_yet =
    ap₂ (shelf_of t) same (yet refl)
    ∙ sym (ap (λ (b : Bool). if b then shelf_of t found true else shelf_of t found sealed)
    (ap is_none (misses t found sealed ∙ sealed-whole found (tag_pieces t) is)))
seal-left t found seen sealed saw (seal.Missing k) is same yet not_yet =
    ap₂ (shelf_of t) same (not_yet (λ e. true≢false (sym (ap is-sealed e))))
    ∙ sym (ap (λ (b : Bool). if b then shelf_of t found true else shelf_of t found sealed)
    (ap is_none (misses t found sealed) ∙ missing-some found (tag_pieces t) k is))

pub seal-leaves : (w y : View) (r : SealReply) → r ≡ seal_answer (tag_pieces w.tag) w.seen
    → (r ≡ seal.Sealed → y ≡ record w { saw = true }) → (¬ (r ≡ seal.Sealed) → y ≡ w)
    → shelf_of w.tag y.seen y.saw ≡ after_seal (shelf_of w.tag w.seen w.saw)
seal-leaves w y seal.Sealed is yet not_yet =
    seal-left w.tag w.seen y.seen w.saw y.saw seal.Sealed is (ap (λ (x : View). x.seen) (yet refl))
    (λ _. ap (λ (x : View). x.saw) (yet refl)) (λ other. absurd (other refl))
seal-leaves w y (seal.Missing k) is yet not_yet =
    let other : ¬ (seal.Missing k ≡ seal.Sealed) = λ e. true≢false (sym (ap is-sealed e)) in
    seal-left w.tag w.seen y.seen w.saw y.saw (seal.Missing k) is (ap (λ (x : View). x.seen) (not_yet other))
    (λ e. absurd (other e)) (λ _. ap (λ (x : View). x.saw) (not_yet other))

pub look-told : (t : Tag) (s : Strategy) (found : List ℕ) (sealed : Bool) (dir : Dir) (input : ℕ) (from : Cells)
    → told_of_look (look_answer s (tag_pieces t) found sealed)
    ≡ look_reply (shelf_of t found sealed ∷ []) (first_step dir input from)
look-told t s found true dir input from = refl
look-told t s found false dir input from = refl
