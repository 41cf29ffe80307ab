-- The sums of a row, tap by tap.
--
-- The key idea: a tap adds to the sum at a cell 0, where its weight is 0 or it lies on no cell of the layer; and else
-- its weight times the number under it, or nothing where the cell under it is empty. One that adds nothing leaves
-- nothing, whatever the others add.
use Rattle.std.proofs.Common.{◌≡◌, ℕ, zero, suc, ◌+◌, ◌-◌, ◌*◌, ◌/◌, ◌%◌, ◌^◌, ◌<◌, ◌≤◌, ◌⊎◌, true, false}
use Rattle.std.proofs.Common.{Option, Some, None, List, get_or, ◌++◌, ◌∷◌, [], refl, sym, ap, ap₂, subst, ◌∙◌, arith}
use Rattle.std.proofs.Common.{inl, inr, length}
use Rattle.std.proofs.Common.{lt-ltb, FitsSigned, w32}
use Rattle.std.specs.Prelude.{ℤ, pos, ◌+ℤ◌, ◌*ℤ◌, negsuc, nat_le, nat_lt, min, option_and_then}
use Rattle.std.specs.Prelude.{Bool, ◌||◌, is_none}
use Rattle.std.specs.Int.RustNames.{unsigned_abs}
use Rattle.std.proofs.Math.Nat.{mul-le-mul}
use Rattle.std.proofs.lemmas.Bool.{cases_Bool, and_from}
use Rattle.std.proofs.lemmas.Bool.Decides.{nat_tests, leb_tells}
use Rattle.std.proofs.lemmas.Int.{ints, unsigned_abs-mul, fits_signed_from_abs}
use Rattle.std.proofs.lemmas.Nat.{div-add-mod', mod_below, div_below, div-mul-add, mod-mul-add}
use Rattle.sz_cells.specs.declared.Cell.{Cell}
use Rattle.sz_cells.specs.Extent.{Extent, holds, is_extent, size_of, cell_of, layer_of, row_in, height_of}
use Rattle.sz_cells.proofs.Shapes.{cell-has_place, sides}
use Rattle.sz_frame.proofs.Places.{are-small, own-place}
use Rattle.sz_ops_window.specs.declared.window.Window.{Window}
use Rattle.sz_spec.specs.declared.op.Op.{Op}
use Rattle.sz_spec.specs.declared.op.Op.TheVariants.{Convolve}
use Rattle.sz_spec.specs.Values.{Grid, input_at, fit}
use Rattle.sz_spec.specs.Shapes.{Site}
use Rattle.sz_spec.specs.Evaluation.{value_of}
use Rattle.sz_spec.specs.Work.{IsAtWork}
use Rattle.sz_spec.specs.Operators.Convolve.{convolved_at}
use Rattle.sz_frame.specs.Walks.{values_before}
use Rattle.sz_frame.proofs.Added.{values-next}
use Rattle.sz_spec.specs.Weights.{Weights, is_zero, tap_at, is_kernel}
use Rattle.sz_ops_window.specs.Sums.{times, part_of, sum_from, reach_of}
use Rattle.sz_ops_window.specs.Sweeps.{is_small, number_of, IsPlain, AreNumbers, IsSmooth, AreSums, AreVoids, unless}
use Rattle.sz_ops_window.proofs.Sums.{IsUnder, is-under, part-in, rows-within, row-out, col-out, kernel-some}
use Rattle.sz_ops_window.proofs.Sums.{kernel-sides, convolved-sum}
use Rattle.sz_ops_window.proofs.Sums.{plus, sum-parts, sum-one}
use Rattle.sz_ops_window.proofs.Walks.{abs-plus}

-- ---- small numbers

pub number-small : (most : ℕ) (v : Option ℤ) → unsigned_abs (number_of most v) ≤ most
number-small most None = omega arith
number-small most (Some z) =
    elim (cases_Bool (nat_le (unsigned_abs z) most)) [
      | inl small ↦ rw small (grind (arith, nat_tests, small))
      | inr large ↦ rw large (omega arith)
    ]

small-number : (most : ℕ) (v : Option ℤ) → is_small most v ≡ true → v ≡ unless (is_none v) (number_of most v)
small-number most None h = refl
small-number most (Some z) h = rw h refl

-- ---- how large a sum is

pub product-within : (w x : ℤ) (weight number : ℕ) → unsigned_abs w ≤ weight → unsigned_abs x ≤ number
    → unsigned_abs (w *ℤ x) ≤ weight * number
product-within w x weight number light small = omega (arith, unsigned_abs-mul w x, mul-le-mul light small)

pub sum-within : (s p : ℤ) (taps most : ℕ) → unsigned_abs s ≤ taps * most → unsigned_abs p ≤ most
    → unsigned_abs (s +ℤ p) ≤ (taps + 1) * most
sum-within s p taps most so_far this =
    let next : (taps + 1) * most ≡ taps * most + most = grind arith in
    omega (arith, abs-plus s p, so_far, this, next)

pub within-fits : (z : ℤ) (taps most : ℕ) → taps < 81 → 81 * most < 2 ^ 31 → unsigned_abs z ≤ (taps + 1) * most
    → FitsSigned w32 z
within-fits z taps most few fits is =
    let up : taps + 1 ≤ 81 = omega (arith, few) in
    let same : most ≤ most = omega arith in
    let all : (taps + 1) * most ≤ 81 * most = mul-le-mul up same in
    fits_signed_from_abs w32 z (omega (arith, all, fits, is))

-- ---- one tap more

abbrev pub at : ℕ → ℕ → Cell
at row col = record { row = row; col = col }

unless-plus : (a b : Bool) (s p : ℤ) → plus (unless a s) (unless b p) ≡ unless (a || b) (s +ℤ p)
unless-plus true b s p = refl
unless-plus false true s p = refl
unless-plus false false s p = refl

pub or-false : (a : Bool) → (a || false) ≡ a
or-false true = refl
or-false false = refl

tap-next : (g : Grid) (w : Weights) (o : Cell) (n : ℕ) (a b : Bool) (s p : ℤ) → unless a s ≡ sum_from g w o 0 n
    → part_of g w o n ≡ unless b p → unless (a || b) (s +ℤ p) ≡ sum_from g w o 0 (n + 1)
tap-next g w o n a b s p so_far this =
    let from : 0 + n ≡ n = omega arith in
    let next : unless b p ≡ sum_from g w o (0 + n) 1 =
    sym this ∙ sym (sum-one g w o n) ∙ ap (λ (m : ℕ). sum_from g w o m 1) (sym from) in
    sym (unless-plus a b s p) ∙ ap₂ plus so_far next ∙ sym (sum-parts g w o 0 n 1)

-- a tap that adds nothing at a cell
pub tap-nothing : (g : Grid) (w : Weights) (o : Cell) (n : ℕ) (a : Bool) (s : ℤ) → unless a s ≡ sum_from g w o 0 n
    → part_of g w o n ≡ Some (pos 0) → unless a s ≡ sum_from g w o 0 (n + 1)
tap-nothing g w o n a s so_far none =
    let same : s +ℤ pos 0 ≡ s = omega (arith, ints) in
    ap₂ unless (sym (or-false a)) (sym same) ∙ tap-next g w o n a false s (pos 0) so_far none

pub more : (n most a : ℕ) → a ≤ n * most → a ≤ (n + 1) * most
more n most a is = let next : (n + 1) * most ≡ n * most + most = grind arith in omega (arith, is, next)

-- a tap that adds nothing at any cell of a row
pub row-nothing : (g : Grid) (w : Weights) (row n most : ℕ) (sums : List ℤ) (marks : List Bool)
    → ((c : ℕ) → c < g.extent.cols → part_of g w (at row c) n ≡ Some (pos 0)) → AreSums g w row n most sums marks
    → AreSums g w row (n + 1) most sums marks
row-nothing g w row n most sums marks none so_far = λ c low. (
  tap-nothing g w (at row c) n (get_or marks c false) (get_or sums c (pos 0)) (so_far c low).0 (none c low),
  more n most (unsigned_abs (get_or sums c (pos 0))) (so_far c low).1,
)

-- a weight that is 0
pub weightless : (g : Grid) (w : Weights) (o : Cell) (n : ℕ) → is_zero (tap_at w n).weight ≡ true
    → part_of g w o n ≡ Some (pos 0)
weightless g w o n none = rw none refl

-- ---- the row and the column of a tap

pub record IsTap (w : Weights) (n : ℕ) : Type 0 where
  pub some : 0 < w.cols
  pub whole : (n / w.cols) * w.cols + n % w.cols ≡ n
  pub tall : n / w.cols < w.rows
  pub wide : n % w.cols < w.cols

pub is-tap : (w : Weights) (n : ℕ) → is_kernel w ≡ true → n < w.rows * w.cols → IsTap w n
is-tap w n kernel low =
    let some = kernel-some w kernel in
    record {
      some = some;
      whole = div-add-mod' n w.cols;
      tall = div_below n w.cols w.rows some low;
      wide = mod_below n w.cols some;
    }

-- out of the rows of the layer
pub above-below : (g : Grid) (w : Weights) (o : Cell) (n : ℕ) → is_kernel w ≡ true → n < w.rows * w.cols
    → ((n / w.cols < (reach_of g.extent w o).top) ⊎ ((reach_of g.extent w o).bottom ≤ n / w.cols))
    → part_of g w o n ≡ Some (pos 0)
above-below g w o n kernel low out =
    let tap = is-tap w n kernel low in
    ap (part_of g w o) (sym tap.whole) ∙ row-out g w o (n / w.cols) (n % w.cols) tap.tall tap.wide out

-- out of the columns of the layer
pub aside : (g : Grid) (w : Weights) (row c n first end : ℕ) → is_kernel w ≡ true → n < w.rows * w.cols
    → c < g.extent.cols → first ≡ min g.extent.cols (w.cols / 2 - n % w.cols)
    → end ≡ min g.extent.cols ((g.extent.cols + w.cols / 2) - n % w.cols) → ((c < first) ⊎ (end ≤ c))
    → part_of g w (at row c) n ≡ Some (pos 0)
aside g w row c n first end kernel low inside starts ends out =
    let tap = is-tap w n kernel low in
    ap (part_of g w (at row c)) (sym tap.whole)
    ∙ col-out g w (at row c) (n / w.cols) (n % w.cols) tap.tall tap.wide
    (elim out [
      | inl before ↦ inl (omega (arith, before, starts))
      | inr behind ↦ inr (omega (arith, behind, ends, inside))
    ])

-- within the layer
pub under-at : (e : Extent) (w : Weights) (row c n first end : ℕ) → is_extent e ≡ true → is_kernel w ≡ true
    → n < w.rows * w.cols → row < e.rows → first ≡ min e.cols (w.cols / 2 - n % w.cols)
    → end ≡ min e.cols ((e.cols + w.cols / 2) - n % w.cols) → first ≤ c → c < end
    → (reach_of e w (at row 0)).top ≤ n / w.cols → n / w.cols < (reach_of e w (at row 0)).bottom
    → IsUnder e w (at row c) (n / w.cols) (n % w.cols)
under-at e w row c n first end right kernel low tall starts ends from to top bottom =
    let tap = is-tap w n kernel low in
    let inside : c < e.cols = omega (arith, to, ends) in
    let left : (reach_of e w (at row c)).left ≤ n % w.cols = omega (arith, from, starts, inside) in
    let behind : n % w.cols < (reach_of e w (at row c)).right = omega (arith, to, ends, tap.wide) in
    is-under e w (at row c) (n / w.cols) (n % w.cols) right
    (and_from _ _ (lt-ltb _ _ tall) (lt-ltb _ _ inside)) top bottom left behind

-- a weight other than 0 times a number, or nothing
scaled : (weight x : ℤ) (b : Bool) → is_zero weight ≡ false → times weight (unless b x) ≡ unless b (weight *ℤ x)
scaled weight x true some = rw some refl
scaled weight x false some = rw some refl

-- what a tap adds there
pub there : (g : Grid) (w : Weights) (row c n most : ℕ) (numbers : List ℤ) (voids : List Bool) → is_kernel w ≡ true
    → n < w.rows * w.cols → IsUnder g.extent w (at row c) (n / w.cols) (n % w.cols)
    → is_zero (tap_at w n).weight ≡ false → IsPlain most g ((row + n / w.cols) - w.rows / 2)
    → AreNumbers most g.values numbers → AreVoids g.values voids → size_of g.extent ≡ length g.values
    → part_of g w (at row c) n
    ≡ unless (get_or voids
    (((row + n / w.cols) - w.rows / 2) * g.extent.cols + ((c + n % w.cols) - w.cols / 2)) false)
    ((tap_at w n).weight *ℤ get_or numbers
    (((row + n / w.cols) - w.rows / 2) * g.extent.cols + ((c + n % w.cols) - w.cols / 2)) (pos 0))
there g w row c n most numbers voids kernel low under some plain are empty size =
    let tap = is-tap w n kernel low in
    let i = ((row + n / w.cols) - w.rows / 2) * g.extent.cols + ((c + n % w.cols) - w.cols / 2) in
    let v = get_or g.values i None in
    let small : is_small most v ≡ true = plain ((c + n % w.cols) - w.cols / 2) under.behind in
    let inside : i < length g.values = omega (arith, under.size, size) in
    let value : v ≡ unless (get_or voids i false) (get_or numbers i (pos 0)) =
    small-number most v small ∙ ap₂ unless (sym (empty.1 i inside)) (sym (are.1 i inside)) in
    let read : times (tap_at w ((n / w.cols) * w.cols + n % w.cols)).weight v
    ≡ part_of g w (at row c) ((n / w.cols) * w.cols + n % w.cols) =
    part-in g w (at row c) (n / w.cols) (n % w.cols) under in
    let here : times (tap_at w n).weight v ≡ part_of g w (at row c) n =
    subst (λ (m : ℕ). times (tap_at w m).weight v ≡ part_of g w (at row c) m) tap.whole read in
    sym here ∙ ap (times (tap_at w n).weight) value
    ∙ scaled (tap_at w n).weight (get_or numbers i (pos 0)) (get_or voids i false) some

-- what the sums and the marks of a row become where a tap lies on some of its cells, from the first to before the end
pub record AreAdded (first end start : ℕ) (weight : ℤ) (numbers old new : List ℤ) (voids was is : List Bool)
    : Type 0 where
  pub added : (k : ℕ) → k < end - first → get_or new (first + k) (pos 0)
      ≡ get_or old (first + k) (pos 0) +ℤ weight *ℤ get_or numbers (start + k) (pos 0)
  pub before : (k : ℕ) → k < first → get_or new k (pos 0) ≡ get_or old k (pos 0)
  pub behind : (k : ℕ) → end ≤ k → get_or new k (pos 0) ≡ get_or old k (pos 0)
  pub marked : (k : ℕ) → k < end - first
      → get_or is (first + k) false ≡ (get_or was (first + k) false || get_or voids (start + k) false)
  pub unmarked : (k : ℕ) → k < first → get_or is k false ≡ get_or was k false
  pub unmarked_behind : (k : ℕ) → end ≤ k → get_or is k false ≡ get_or was k false

-- a tap adds at the cells of a row on which it lies its weight times the number under it, and nothing at the others
pub swept : (g : Grid) (w : Weights) (row n most weight first end start : ℕ) (numbers old new : List ℤ)
    (voids was is : List Bool)
    → is_extent g.extent ≡ true → is_kernel w ≡ true → n < w.rows * w.cols → row < g.extent.rows
    → first ≡ min g.extent.cols (w.cols / 2 - n % w.cols)
    → end ≡ min g.extent.cols ((g.extent.cols + w.cols / 2) - n % w.cols)
    → (first < end → start ≡ ((row + n / w.cols) - w.rows / 2) * g.extent.cols + ((first + n % w.cols) - w.cols / 2))
    → (reach_of g.extent w (at row 0)).top ≤ n / w.cols → n / w.cols < (reach_of g.extent w (at row 0)).bottom
    → is_zero (tap_at w n).weight ≡ false → unsigned_abs (tap_at w n).weight ≤ weight
    → IsSmooth most g w row → AreNumbers most g.values numbers → AreVoids g.values voids
    → size_of g.extent ≡ length g.values
    → AreSums g w row n (weight * most) old was
    → AreAdded first end start (tap_at w n).weight numbers old new voids was is
    → AreSums g w row (n + 1) (weight * most) new is
swept g w row n most weight first end start numbers old new voids was is right kernel low tall starts ends begins top
    bottom some light smooth are empty size so_far add = λ c inside.
    let s = get_or old c (pos 0) in
    let a = get_or was c false in
    let here = so_far c inside in
    let same : ((c < first) ⊎ (end ≤ c)) → get_or new c (pos 0) ≡ s → get_or is c false ≡ a
    → (unless (get_or is c false) (get_or new c (pos 0)) ≡ sum_from g w (at row c) 0 (n + 1))
    × (unsigned_abs (get_or new c (pos 0)) ≤ (n + 1) * (weight * most)) = λ out stays keeps. rw (stays, keeps) (
      tap-nothing g w (at row c) n a s here.0
          (aside g w row c n first end kernel low inside starts ends out),
      more n (weight * most) (unsigned_abs s) here.1,
    ) in
    elim (leb_tells first c) [
      | inr left ↦ same (inl left.1) (add.before c left.1) (add.unmarked c left.1)
      | inl told ↦
          let from = told.1 in
          elim (leb_tells end c) [
            | inl past ↦ same (inr past.1) (add.behind c past.1) (add.unmarked_behind c past.1)
            | inr within ↦
                let to = within.1 in
                let under =
                under-at g.extent w row c n first end right kernel low tall starts ends from to top bottom in
                let i = ((row + n / w.cols) - w.rows / 2) * g.extent.cols + ((c + n % w.cols) - w.cols / 2) in
                let x = get_or numbers i (pos 0) in
                let b = get_or voids i false in
                let begin = begins (omega (arith, from, to)) in
                let place : first + (c - first) ≡ c = omega (arith, from) in
                let least : w.cols / 2 ≤ first + n % w.cols = omega (arith, starts, from, to, ends) in
                let along : start + (c - first) ≡ i = omega (arith, begin, from, least) in
                let made : get_or new c (pos 0) ≡ s +ℤ (tap_at w n).weight *ℤ x =
                subst (λ (j : ℕ). get_or new c (pos 0)
                ≡ s +ℤ (tap_at w n).weight *ℤ get_or numbers j (pos 0)) along
                (subst (λ (j : ℕ). get_or new j (pos 0) ≡ get_or old j (pos 0)
                +ℤ (tap_at w n).weight *ℤ get_or numbers (start + (c - first)) (pos 0)) place
                (add.added (c - first) (omega (arith, from, to)))) in
                let mark : get_or is c false ≡ (a || b) =
                subst (λ (j : ℕ). get_or is c false ≡ (a || get_or voids j false)) along
                (subst (λ (j : ℕ). get_or is j false
                ≡ (get_or was j false || get_or voids (start + (c - first)) false)) place
                (add.marked (c - first) (omega (arith, from, to)))) in
                let small : unsigned_abs x ≤ most =
                subst (λ (z : ℤ). unsigned_abs z ≤ most) (sym (are.1 i (omega (arith, under.size, size))))
                (number-small most (get_or g.values i None)) in
                rw (made, mark) (
                  tap-next g w (at row c) n a b s ((tap_at w n).weight *ℤ x) here.0
                      (there g w row c n most numbers voids kernel low under some (smooth (n / w.cols) top bottom) are
                      empty size),
                  sum-within s ((tap_at w n).weight *ℤ x) n (weight * most) here.1
                      (product-within (tap_at w n).weight x weight most light small),
                )
          ]
    ]

-- ---- the values of a row

pub row-value : (s : Site) (inputs : List Grid) (w : Weights) (row c : ℕ) → s.op ≡ Convolve w → IsAtWork s inputs
    → c < s.out.cols
    → value_of s.op inputs (cell_of s.out (row * s.out.cols + c)) ≡ convolved_at w (input_at inputs 0) (at row c)
row-value s inputs w row c is work low =
    let make : ℕ → ℕ → Cell = λ a b. record { row = a; col = b } in
    ap (λ (op : Op). value_of op inputs (cell_of s.out (row * s.out.cols + c))) is
    ∙ ap₂ (λ (a b : ℕ). convolved_at w (input_at inputs 0) (make a b)) (div-mul-add row s.out.cols c low)
    (mod-mul-add row s.out.cols c low)

-- one value more
pub one-value : (s : Site) (inputs : List Grid) (w : Weights) (row c : ℕ) (g : Grid) (v : Option ℤ)
    (so_far new : List (Option ℤ)) → s.op ≡ Convolve w → IsAtWork s inputs → c < s.out.cols
    → g ≡ input_at inputs 0 → v ≡ convolved_at w g (at row c)
    → so_far ≡ values_before s inputs (row * s.out.cols + c) → new ≡ so_far ++ v ∷ []
    → new ≡ values_before s inputs (row * s.out.cols + (c + 1))
one-value s inputs w row c g v so_far new is work low same value made more_one =
    let n = row * s.out.cols + c in
    let next : n + 1 ≡ row * s.out.cols + (c + 1) = omega arith in
    values-next s inputs n (cell_of s.out n) v so_far new made refl
    (value ∙ ap (λ (h : Grid). convolved_at w h (at row c)) same ∙ sym (row-value s inputs w row c is work low))
    more_one
    ∙ ap (values_before s inputs) next

-- a small sum is the value
fit-small : (z : ℤ) → unsigned_abs z < 2 ^ 63 → fit z ≡ Some z
fit-small (pos n) h = let t : nat_lt n (2 ^ 63) ≡ true = lt-ltb _ _ h in rw t refl
fit-small (negsuc n) h =
    let low : n < 2 ^ 63 = omega (arith, h) in
    let t : nat_lt n (2 ^ 63) ≡ true = lt-ltb _ _ low in
    rw t refl

pub few-taps : (w : Weights) → is_kernel w ≡ true → w.rows * w.cols ≤ 81
few-taps w kernel =
    let sides = kernel-sides w kernel in
    let same : w.cols ≤ w.cols = omega arith in
    let count : w.rows * w.cols ≤ 9 * w.cols = mul-le-mul sides.0 same in
    omega (arith, count, sides.1)

pub zero-tells : (z : ℤ) → z ≡ pos 0 → is_zero z ≡ true
zero-tells z is = rw is refl

pub other-tells : (z : ℤ) → (z ≡ pos 0 → ⊥) → is_zero z ≡ false
other-tells (pos zero) other = absurd (other refl)
other-tells (pos (suc n)) other = grind (arith, nat_tests)
other-tells (negsuc n) other = refl

fit-unless : (b : Bool) (z : ℤ) → unsigned_abs z < 2 ^ 63 → unless b z ≡ option_and_then fit (unless b z)
fit-unless true z h = refl
fit-unless false z h = sym (fit-small z h)

pub all-taps : (s : Site) (inputs : List Grid) (w : Weights) (row c most : ℕ) (g : Grid) (sums : List ℤ)
    (marks : List Bool) → s.op ≡ Convolve w → IsAtWork s inputs → c < s.out.cols → g ≡ input_at inputs 0
    → g.extent ≡ s.out → is_kernel w ≡ true → 81 * most < 2 ^ 31 → AreSums g w row (w.rows * w.cols) most sums marks
    → unless (get_or marks c false) (get_or sums c (pos 0))
    ≡ value_of s.op inputs (cell_of s.out (row * s.out.cols + c))
all-taps s inputs w row c most g sums marks is work low same shape kernel fits are =
    let cols = ap (λ (e : Extent). e.cols) shape in
    let here = are c (omega (arith, low, cols)) in
    let z = get_or sums c (pos 0) in
    let few = few-taps w kernel in
    let same_most : most ≤ most = omega arith in
    let bound : (w.rows * w.cols) * most ≤ 81 * most = mul-le-mul few same_most in
    fit-unless (get_or marks c false) z (omega (arith, here.1, bound, fits))
    ∙ ap (option_and_then fit) here.0
    ∙ sym (convolved-sum w g (at row c))
    ∙ ap (λ (h : Grid). convolved_at w h (at row c)) same
    ∙ sym (row-value s inputs w row c is work low)

-- ---- the rows under the kernel

pub row-under : (e : Extent) (w : Weights) (row k : ℕ) (reach : Window) → is_extent e ≡ true → row < e.rows
    → reach ≡ reach_of e w (at row 0) → reach.top ≤ k → k < reach.bottom
    → (w.rows / 2 ≤ row + k) × ((row + k) - w.rows / 2 < e.rows)
row-under e w row k reach right tall is top bottom =
    let tops = ap (λ (r : Window). r.top) is in
    let bottoms = ap (λ (r : Window). r.bottom) is in
    let o = at row 0 in
    let some = (sides e right).3 in
    let held : holds e o ≡ true = and_from _ _ (lt-ltb _ _ tall) (lt-ltb _ _ some) in
    let small = are-small e right in
    let whole : layer_of e o * height_of e + row_in e o ≡ row =
    ap (λ (x : Cell). x.row) (cell-has_place e o right held).1 in
    let layers : layer_of e o * height_of e + height_of e ≤ e.rows =
    rows-within e o (own-place e o right held).0 small in
    (omega (arith, whole, top, tops), omega (arith, whole, top, tops, bottom, bottoms, layers))
