-- The key idea: a level says where it keeps rectangle n by n / span alone. So a look at one box tells of
-- every number with the same quotient, and a new rectangle touches one box, whatever the others are.
use Rattle.std.proofs.Common.{ℕ, ◌+◌, ◌*◌, ◌/◌, ◌<◌, ◌≤◌, ◌≡◌, ◌^◌, List, [], ◌∷◌}
use Rattle.std.proofs.Common.{◌++◌, length, get_or, arith, ⊎_elim, refl, sym, ap, ◌∙◌}
use Rattle.std.proofs.Math.Nat.{lt-div-mul-add, div-lt_iff_lt-mul, div-mul-le_self, le-div_iff_mul-le}
use Rattle.std.proofs.Math.Nat.{mul-le-mul_right, mul-div_cancel, div-div-eq-div-mul}
use Rattle.std.proofs.lemmas.Bool.{cases_lt}
use Rattle.std.proofs.lemmas.List.{get_or_default, get_or_append_left, get_or_push, length_push}
use Rattle.sz_cells.specs.declared.Bounds.{Bounds}
use Rattle.sz_rtree.specs.Rectangles.{Overlaps}
use Rattle.sz_rtree.specs.Levels.{IsInside, HasBoxes, MissesUpTo}

-- one box more than there are whole runs has room for all
pub room_for : (count span room : ℕ) → 0 < span → count / span + 1 ≤ room → count ≤ room * span
room_for count span room positive h =
    let below : count < count / span * span + span = lt-div-mul-add positive in
    let wide : (count / span + 1) * span ≤ room * span = mul-le-mul_right span h in
    omega arith

-- boxes that are all full end where the rectangles end
pub ends_together : (count span boxes : ℕ) → count ≤ boxes * span → boxes ≤ count / span
    → count ≡ boxes * span
ends_together count span boxes enough full =
    let wide : boxes * span ≤ count / span * span = mul-le-mul_right span full in
    let below : count / span * span ≤ count = div-mul-le_self count span in
    omega arith

-- a number that the boxes reach has one of them
pub place_below : (n span boxes : ℕ) → 0 < span → n < boxes * span → n / span < boxes
place_below n span boxes positive h = (div-lt_iff_lt-mul {k = span} {x = n} {y = boxes} positive).1 h

-- the numbers from one up to the end of its run have one quotient
pub same_box : (n number span : ℕ) → 0 < span → number ≤ n → n < (number / span + 1) * span
    → n / span ≡ number / span
same_box n number span positive ge lt =
    let above : n / span < number / span + 1 = place_below n span (number / span + 1) positive lt in
    let start : number / span * span ≤ n = omega (arith, div-mul-le_self number span) in
    let below : number / span ≤ n / span =
    (le-div_iff_mul-le {k = span} {x = number / span} {y = n} positive).1 start in
    omega arith

-- a rectangle is inside itself
pub IsInside-itself : {b : Bounds} → IsInside b b
IsInside-itself {b} = record { top = omega arith; bottom = omega arith; left = omega arith; right = omega arith }

-- what overlaps the inner one overlaps the outer one
pub Overlaps-wider : {inner outer : Bounds} (bounds : Bounds) → IsInside inner outer → Overlaps inner bounds
    → Overlaps outer bounds
Overlaps-wider {inner} {outer} bounds within o =
    (omega arith, omega arith, omega arith, omega arith)

-- a rectangle that opens a box of its own: those before it keep their boxes
each_before : (rectangles boxes : List Bounds) (span : ℕ) (b : Bounds) → HasBoxes rectangles span boxes
    → (n : ℕ) (d : Bounds) → n < length rectangles
    → IsInside (get_or (rectangles ++ b ∷ []) n d) (get_or (boxes ++ b ∷ []) (n / span) d)
each_before rectangles boxes span b has n d lt =
    let enough = has.enough in
    let place : n / span < length boxes = place_below n span (length boxes) has.positive (omega arith) in
    rw (get_or_append_left rectangles (b ∷ []) d n lt, get_or_append_left boxes (b ∷ []) d (n / span) place)
    (has.each n d lt)

-- and the last has the new one
each_last : (rectangles boxes : List Bounds) (span : ℕ) (b d : Bounds) → 0 < span
    → length rectangles ≡ length boxes * span
    → IsInside (get_or (rectangles ++ b ∷ []) (length rectangles) d)
    (get_or (boxes ++ b ∷ []) (length rectangles / span) d)
each_last rectangles boxes span b d positive e =
    let place : length boxes ≡ length rectangles / span =
    sym (ap (λ n. n / span) e ∙ mul-div_cancel (length boxes) positive) in
    rw (get_or_push rectangles b d (length rectangles) refl, get_or_push boxes b d (length rectangles / span) place)
    IsInside-itself

-- boxes that are all full go on with a box for the next rectangle alone
pub HasBoxes-push : (rectangles boxes : List Bounds) (span : ℕ) (b : Bounds)
    → length boxes ≤ length rectangles / span → HasBoxes rectangles span boxes
    → HasBoxes (rectangles ++ b ∷ []) span (boxes ++ b ∷ [])
HasBoxes-push rectangles boxes span b full has =
    let positive = has.positive in
    let enough = has.enough in
    let together = ends_together (length rectangles) span (length boxes) enough full in
    let last : (n : ℕ) (d : Bounds) → n ≡ length rectangles
    → IsInside (get_or (rectangles ++ b ∷ []) n d) (get_or (boxes ++ b ∷ []) (n / span) d) =
    λ n d e. rw e (each_last rectangles boxes span b d positive together) in
    record {
      positive = positive;
      small = has.small;
      enough = rw (length_push rectangles b, length_push boxes b) (omega arith);
      each =
          λ n d lt. ⊎_elim (each_before rectangles boxes span b has n d)
          (λ ge. last n d (omega (arith, length_push rectangles b))) (cases_lt n (length rectangles));
    }

-- a box that does not overlap clears all the numbers of its quotient
pub clears : (rectangles boxes : List Bounds) (span number : ℕ) (bounds held : Bounds)
    → HasBoxes rectangles span boxes → number / span < length boxes → held ≡ get_or boxes (number / span) held
    → ¬ (Overlaps held bounds) → MissesUpTo rectangles bounds number ((number / span + 1) * span)
clears rectangles boxes span number bounds held has inside read clear n d ge lt there o =
    let same : n / span ≡ number / span = same_box n number span has.positive ge lt in
    let its_box : get_or boxes (n / span) d ≡ held = ap (λ k. get_or boxes k d) same
    ∙ get_or_default boxes (number / span) d held inside ∙ sym read in
    clear (Overlaps-wider bounds (rw its_box at (has.each n d there)) o)

IsInside-trans : (a b c : Bounds) → IsInside a b → IsInside b c → IsInside a c
IsInside-trans a b c first second = record {
  top = omega (arith, first.top, second.top);
  bottom = omega (arith, first.bottom, second.bottom);
  left = omega (arith, first.left, second.left);
  right = omega (arith, first.right, second.right);
}

-- boxes round four boxes each are round the rectangles of these
pub HasBoxes-over : (rectangles below boxes : List Bounds) (span : ℕ) → span * 4 < 2 ^ 32
    → HasBoxes rectangles span below → HasBoxes below 4 boxes → HasBoxes rectangles (span * 4) boxes
HasBoxes-over rectangles below boxes span fits has over =
    let wide : length below * span ≤ length boxes * 4 * span = mul-le-mul_right span over.enough in
    let regrouped : length boxes * 4 * span ≡ length boxes * (span * 4) = grind arith in record {
      positive = omega (arith, has.positive);
      small = fits;
      enough = omega (arith, has.enough, wide, regrouped);
      each =
          λ n d inside.
          let place : n / span < length below =
          place_below n span (length below) has.positive (omega (arith, inside, has.enough)) in
          IsInside-trans (get_or rectangles n d) (get_or below (n / span) d) (get_or boxes (n / (span * 4)) d)
          (has.each n d inside)
          (rw (div-div-eq-div-mul n span 4) at (over.each (n / span) d place));
    }
