-- Rows of cells that matter and of cells that are idle, on both sides of each condition: of folds of the least and the
-- greatest, of clean and of regions.
--
-- The key idea: on written-out arrays every definition is a computation. Expected values by hand.
use Rattle.std.proofs.Common.{◌≡◌, ℕ, zero, suc, ◌+◌, ◌-◌, ◌^◌, ℤ, pos, neg_ℤ, true, false, [], ◌∷◌, List}
use Rattle.std.proofs.Common.{Option, Some, None, refl, sym, ap, ◌∙◌, arith, inl, inr, unwrap_or, slice_get}
use Rattle.std.proofs.lemmas.Bool.{true≢false}
use Rattle.std.proofs.lemmas.List.Elements.{All-cons, All-nil}
use Rattle.sz_cells.specs.declared.Cell.{Cell}
use Rattle.sz_cells.specs.Extent.{Extent, flat, holds, index_of, cell_of, is_extent}
use Rattle.sz_cells.proofs.Sets.{cell-index}
use Rattle.sz_spec.specs.declared.op.Op.{Op}
use Rattle.sz_spec.specs.declared.op.Op.TheVariants as op
use Rattle.sz_spec.specs.declared.op.Fold.TheVariants as fold
use Rattle.sz_spec.specs.Values.{Grid}
use Rattle.sz_spec.specs.Shapes.{Site, IsSite}
use Rattle.sz_spec.specs.Evaluation.{value_of}
use Rattle.sz_spec.specs.Operators.Regions.{is_high, is_connected, labelled_at}
use Rattle.sz_spec.specs.Supports.{supports}
use Rattle.sz_spec.specs.Work.{IsAtWork}
use Rattle.sz_spec.proofs.Components.{connected-both_high}
use Rattle.sz_spec.proofs.RowsArrays.{grid, stack, n, minus, none}
use Rattle.sz_support.specs.Changes.{IsSupported, ValueDiffers, MattersByNumber, IsValue, HoldValues, Matters}
use Rattle.sz_support.specs.LawsExactly.{AnotherHolds, IsFirst, StandsBetween, JoinsBefore}
use Rattle.sz_support.proofs.MatterExtremes.{least-matter}
use Rattle.sz_support.proofs.MatterClean.{own_clean-matter, round_hot-matter}
use Rattle.sz_support.proofs.MatterPassages.{regions-first, inner-matter, rim_exactly-matter}

abbrev cell : ℕ → ℕ → Cell
cell r c = record { row = r; col = c }

-- the least and the greatest i64
abbrev least : Option ℤ
least = minus (2 ^ 63)

abbrev greatest : Option ℤ
greatest = n (2 ^ 63 - 1)

-- ---- values

pub value-none : IsValue none
value-none = refl

pub value-least : IsValue least
value-least = refl

pub value-greatest : IsValue greatest
value-greatest = refl

pub value-beyond : IsValue (n (2 ^ 63)) → ⊥
value-beyond h = (cc)

pub value-below : IsValue (minus (2 ^ 63 + 1)) → ⊥
value-below h = (cc)

-- ---- the least and the greatest of a row

-- what an operator makes of three cells of a row, at one of them
abbrev of_three : Op → ℕ → Option ℤ → Option ℤ → Option ℤ → Option ℤ
of_three o k u v w = value_of o (grid 1 3 (u ∷ v ∷ w ∷ []) ∷ []) (cell 0 k)

abbrev least_of : Option ℤ → Option ℤ → Option ℤ → Option ℤ
least_of = of_three (op.Block fold.Min 1 3) 0

abbrev greatest_of : Option ℤ → Option ℤ → Option ℤ → Option ℤ
greatest_of = of_three (op.Block fold.Max 1 3) 0

-- an empty cell beside the least one, and the greater one, by a number below it
pub least-now : least_of (n 5) (n 2) none ≡ n 2
least-now = refl

pub least-lower : least_of (n 5) (n 2) (n 1) ≡ n 1
least-lower = refl

pub least-higher : least_of (n 5) (n 2) (n 3) ≡ n 2
least-higher = refl

pub least-other : least_of (n 1) (n 2) none ≡ n 1
least-other = refl

-- beside the least i64 nothing, and beside the next one the least i64 alone
pub least-end : least_of (n 5) least none ≡ least
least-end = refl

pub least-end_lower : least_of (n 5) least least ≡ least
least-end_lower = refl

pub least-next : least_of (n 5) (minus (2 ^ 63 - 1)) none ≡ minus (2 ^ 63 - 1)
least-next = refl

pub least-next_lower : least_of (n 5) (minus (2 ^ 63 - 1)) least ≡ least
least-next_lower = refl

pub greatest-end : greatest_of (n 5) greatest none ≡ greatest
greatest-end = refl

pub greatest-end_least : greatest_of least greatest none ≡ greatest
greatest-end_least = refl

pub greatest-higher : greatest_of (n 5) least (n 6) ≡ n 6
greatest-higher = refl

-- ---- two inputs, and names in a table

abbrev product : Option ℤ → Option ℤ → Option ℤ
product v w = value_of op.Mul (grid 1 1 (v ∷ []) ∷ grid 1 1 (w ∷ []) ∷ []) (cell 0 0)

-- beside 0 a cell matters by being empty, and beside an empty one by nothing
pub product-zero : (product (n 3) (n 0) ≡ n 0) × (product none (n 0) ≡ none)
product-zero = (refl, refl)

pub product-empty : (product (n 3) none ≡ none) × (product none none ≡ none)
product-empty = (refl, refl)

-- where the table holds a number, the cell that names an empty column matters, and where it holds none, it does not
abbrev found : Option ℤ → Option ℤ → Option ℤ
found v w = value_of op.Lookup (grid 1 1 (v ∷ []) ∷ grid 1 2 (none ∷ w ∷ []) ∷ []) (cell 0 0)

pub found-empty : found (n 0) (n 7) ≡ none
found-empty = refl

pub found-number : found (n 1) (n 7) ≡ n 7
found-number = refl

pub found-never : found (n 1) none ≡ none
found-never = refl

-- ---- sites of one array, whose values are i64s or nothing

abbrev site : Op → Grid → Extent → Site
site o g out = record { op = o; ins = g.extent ∷ []; out = out }

working : (o : Op) (g : Grid) (out : Extent) → is_extent g.extent ≡ true → IsSite (site o g out)
    → IsAtWork (site o g out) (g ∷ [])
working o g out right made = record {
  site = made;
  shapes = refl;
  right = All-cons (λ e. is_extent e ≡ true) g.extent [] right (All-nil (λ e. is_extent e ≡ true));
}

abbrev Values : List (Option ℤ) → Type 0
Values [] = Unit {0}
Values (v ∷ vs) = IsValue v × Values vs

value-of : (vs : List (Option ℤ)) → Values vs → (k : ℕ) → IsValue (unwrap_or (slice_get vs k) None)
value-of [] right k = refl
value-of (v ∷ vs) right zero = right.0
value-of (v ∷ vs) right (suc k) = value-of vs right.1 k

holding : (o : Op) (g : Grid) (out : Extent) → Values g.values → HoldValues (site o g out) (g ∷ [])
holding o g out right zero x inside there = value-of g.values right (index_of g.extent x)
holding o g out right (suc i) x inside there = absurd (omega arith)

-- ---- the second cell of two, beside the least i64 and beside another number

abbrev fold_two : Op
fold_two = op.Block fold.Min 1 2

abbrev two : Option ℤ → Grid
two v = grid 1 2 (v ∷ n 5 ∷ [])

supported-two : (v : Option ℤ) → IsSupported (site fold_two (two v) (flat 1 1)) (two v ∷ []) 0 (cell 0 0) (cell 0 1)
supported-two v = record {
  work = working fold_two (two v) (flat 1 1) refl (record { arity = refl; parameters = refl; shape = refl });
  held = refl;
  there = refl;
  supports = refl;
}

-- beside the least i64 it is idle
pub idle-beside_least : Matters (site fold_two (two least) (flat 1 1)) (two least ∷ []) 0 (cell 0 0) (cell 0 1) → ⊥
idle-beside_least matters =
    (least-matter 1 2 (site fold_two (two least) (flat 1 1)) (two least ∷ []) 0 (cell 0 0) (cell 0 1) refl
    (supported-two least) (holding fold_two (two least) (flat 1 1) (refl, (refl, tt)))).1 matters
    (cell 0 0, refl, refl, refl, refl)

-- beside 7 it is not, so no other cell holds the least i64
pub matters-beside_seven : Matters (site fold_two (two (n 7)) (flat 1 1)) (two (n 7) ∷ []) 0 (cell 0 0) (cell 0 1)
matters-beside_seven = (none, refl, λ h. cc)

pub alone-beside_seven : AnotherHolds (site fold_two (two (n 7)) (flat 1 1)) (two (n 7) ∷ []) 0 (cell 0 0) (cell 0 1)
    (neg_ℤ (pos (2 ^ 63))) → ⊥
alone-beside_seven =
    (least-matter 1 2 (site fold_two (two (n 7)) (flat 1 1)) (two (n 7) ∷ []) 0 (cell 0 0) (cell 0 1) refl
    (supported-two (n 7)) (holding fold_two (two (n 7)) (flat 1 1) (refl, (refl, tt)))).1 matters-beside_seven

pub by_number-beside_seven :
    MattersByNumber (site fold_two (two (n 7)) (flat 1 1)) (two (n 7) ∷ []) 0 (cell 0 0) (cell 0 1)
by_number-beside_seven =
    (least-matter 1 2 (site fold_two (two (n 7)) (flat 1 1)) (two (n 7) ∷ []) 0 (cell 0 0) (cell 0 1) refl
    (supported-two (n 7)) (holding fold_two (two (n 7)) (flat 1 1) (refl, (refl, tt)))).0 alone-beside_seven

-- ---- clean: the middle one of three is hot at 8

abbrev cleaned : Option ℤ → Option ℤ → Option ℤ → Option ℤ
cleaned = of_three (op.Clean (pos 8)) 1

pub clean-now : cleaned (n 5) (n 9) (n 3) ≡ n 3
clean-now = refl

pub clean-emptied : cleaned (n 5) (n 9) none ≡ n 5
clean-emptied = refl

pub clean-hot : cleaned (n 5) (n 9) (n 8) ≡ n 5
clean-hot = refl

pub clean-alone : cleaned none (n 9) none ≡ none
clean-alone = refl

-- beside the least i64 a third cell is idle
pub clean-least : cleaned least (n 9) (n 3) ≡ least
clean-least = refl

pub clean-least_emptied : cleaned least (n 9) none ≡ least
clean-least_emptied = refl

-- to a sound cell its own value matters, and no other cell supports it
pub clean-sound : cleaned (n 5) (n 7) (n 3) ≡ n 7
clean-sound = refl

pub clean-sound_alone : supports (op.Clean (pos 8)) (grid 1 3 (n 5 ∷ n 7 ∷ n 3 ∷ []) ∷ []) 0 (cell 0 1) (cell 0 0)
    ≡ false
clean-sound_alone = refl

-- where the least i64 alone is sound, and lies beside the cell, all numbers at it make one value, and no number another
abbrev nearly : Option ℤ → Option ℤ
nearly v = value_of (op.Clean (neg_ℤ (pos (2 ^ 63 - 1)))) (grid 1 2 (v ∷ least ∷ []) ∷ []) (cell 0 0)

pub nearly-number : (nearly least ≡ least) × (nearly (n 0) ≡ least)
nearly-number = (refl, refl)

pub nearly-emptied : nearly none ≡ none
nearly-emptied = refl

-- where no number is sound, all that is made is empty
abbrev never : Option ℤ → Option ℤ → Option ℤ
never v w = value_of (op.Clean (neg_ℤ (pos (2 ^ 63)))) (grid 1 2 (v ∷ w ∷ []) ∷ []) (cell 0 0)

pub never-any : (never least (n 1) ≡ none) × (never (n 0) least ≡ none) × (never none least ≡ none)
never-any = (refl, refl, refl)

-- the laws at such rows: a cell beside the hot one, alone and with the least i64 on its other side
abbrev clean_three : Option ℤ → Grid
clean_three v = grid 1 3 (v ∷ n 9 ∷ n 3 ∷ [])

abbrev at_clean : Option ℤ → Site
at_clean v = site (op.Clean (pos 8)) (clean_three v) (flat 1 3)

supported-clean : (v : Option ℤ) → IsSupported (at_clean v) (clean_three v ∷ []) 0 (cell 0 1) (cell 0 2)
supported-clean v = record {
  work = working (op.Clean (pos 8)) (clean_three v) (flat 1 3) refl
      (record { arity = refl; parameters = refl; shape = refl });
  held = refl;
  there = refl;
  supports = refl;
}

pub clean-idle : Matters (at_clean least) (clean_three least ∷ []) 0 (cell 0 1) (cell 0 2) → ⊥
clean-idle matters =
    ((round_hot-matter (pos 8) (at_clean least) (clean_three least ∷ []) (cell 0 1) (cell 0 2) refl
    (supported-clean least) refl
    (holding (op.Clean (pos 8)) (clean_three least) (flat 1 3) (refl, (refl, (refl, tt))))).1 matters).1
    (cell 0 0, refl, refl, refl, refl)

pub clean-matters : Matters (at_clean (n 5)) (clean_three (n 5) ∷ []) 0 (cell 0 1) (cell 0 2)
clean-matters = (n 1, refl, λ h. cc)

-- and the cell itself, where no number is sound
abbrev at_never : Site
at_never = site (op.Clean (neg_ℤ (pos (2 ^ 63)))) (grid 1 1 (n 4 ∷ [])) (flat 1 1)

pub never-matters : Matters at_never (grid 1 1 (n 4 ∷ []) ∷ []) 0 (cell 0 0) (cell 0 0) → ⊥
never-matters matters =
    true≢false
    (sym ((own_clean-matter (neg_ℤ (pos (2 ^ 63))) at_never (grid 1 1 (n 4 ∷ []) ∷ []) (cell 0 0) refl
    (working (op.Clean (neg_ℤ (pos (2 ^ 63)))) (grid 1 1 (n 4 ∷ [])) (flat 1 1) refl
    (record { arity = refl; parameters = refl; shape = refl })) refl
    (holding (op.Clean (neg_ℤ (pos (2 ^ 63)))) (grid 1 1 (n 4 ∷ [])) (flat 1 1) (refl, tt))).1 matters))

-- ---- regions at 5

abbrev five : Op
five = op.Regions (pos 5)

supported-five : (g : Grid) (o x : Cell) → is_extent g.extent ≡ true → holds g.extent o ≡ true → holds g.extent x ≡ true
    → supports five (g ∷ []) 0 o x ≡ true → IsSupported (site five g g.extent) (g ∷ []) 0 o x
supported-five g o x right held there passes = record {
  work = working five g g.extent right (record { arity = refl; parameters = refl; shape = refl });
  held = held;
  there = there;
  supports = passes;
}

-- the first cell, where the label is known
first-at : (g : Grid) (o c : Cell) (k : ℕ) → holds g.extent o ≡ true → is_high (pos 5) g o ≡ true
    → labelled_at (pos 5) g o ≡ Some (pos (1 + k)) → index_of g.extent c ≡ k → is_connected (pos 5) g o c ≡ true
    → IsFirst (pos 5) g o c
first-at g o c k held high label index inside =
    let known = regions-first (pos 5) g o held high in
    let one : Some (pos (1 + index_of g.extent known.0)) ≡ Some (pos (1 + k)) = sym known.2 ∙ label in
    let numbers : 1 + index_of g.extent known.0 ≡ 1 + k = cc in
    record { inside = inside; first = λ d there. omega (arith, (known.1).first d there, index, numbers) }

-- ---- one way to the first cell, and two

abbrev line : Option ℤ → Grid
line v = grid 1 3 (n 9 ∷ v ∷ n 9 ∷ [])

-- the middle of three stands between the last and the first
pub line-now : value_of five (line (n 9) ∷ []) (cell 0 2) ≡ n 1
line-now = refl

pub line-emptied : value_of five (line none ∷ []) (cell 0 2) ≡ n 3
line-emptied = refl

first-of_line : IsFirst (pos 5) (line (n 9)) (cell 0 2) (cell 0 0)
first-of_line = first-at (line (n 9)) (cell 0 2) (cell 0 0) 0 refl refl refl refl refl

pub line-between : StandsBetween (pos 5) (line (n 9)) (cell 0 2) (cell 0 0) (cell 0 1)
line-between =
    (inner-matter (pos 5) (site five (line (n 9)) (flat 1 3)) (line (n 9) ∷ []) (cell 0 2) (cell 0 1) (cell 0 0) refl
    (working five (line (n 9)) (flat 1 3) refl (record { arity = refl; parameters = refl; shape = refl }))
    first-of_line refl).1 (none, refl, λ h. cc)

-- the last itself does, and so does the first
pub line-last : StandsBetween (pos 5) (line (n 9)) (cell 0 2) (cell 0 0) (cell 0 2)
line-last cells led = refl

-- to the first cell no other cell of the region does
pub line-from_first : StandsBetween (pos 5) (line (n 9)) (cell 0 0) (cell 0 0) (cell 0 1) → ⊥
line-from_first stands = true≢false (sym (stands [] (refl, refl, refl)))

-- four high cells in a square: two ways lead from the last to the first, so the second is idle
abbrev square : Option ℤ → Grid
square v = grid 2 2 (n 9 ∷ v ∷ n 9 ∷ n 9 ∷ [])

pub square-now : value_of five (square (n 9) ∷ []) (cell 1 1) ≡ n 1
square-now = refl

pub square-emptied : value_of five (square none ∷ []) (cell 1 1) ≡ n 1
square-emptied = refl

pub square-way : StandsBetween (pos 5) (square (n 9)) (cell 1 1) (cell 0 0) (cell 0 1) → ⊥
square-way stands =
    true≢false
    (sym (stands (cell 1 0 ∷ cell 0 0 ∷ []) (refl, refl, refl, (refl, refl, refl, (refl, refl, refl)))))

pub square-idle :
    Matters (site five (square (n 9)) (flat 2 2)) (square (n 9) ∷ []) 0 (cell 1 1) (cell 0 1) → ⊥
square-idle matters =
    square-way
    ((inner-matter (pos 5) (site five (square (n 9)) (flat 2 2)) (square (n 9) ∷ []) (cell 1 1) (cell 0 1) (cell 0 0)
    refl (working five (square (n 9)) (flat 2 2) refl (record { arity = refl; parameters = refl; shape = refl }))
    (first-at (square (n 9)) (cell 1 1) (cell 0 0) 0 refl refl refl refl refl) refl).1 matters)

-- the first cell matters: without it the second is first
pub square-first : value_of five (grid 2 2 (none ∷ n 9 ∷ n 9 ∷ n 9 ∷ []) ∷ []) (cell 1 1) ≡ n 2
square-first = refl

-- ---- beside a region: two columns of high cells, and what lies between and below them

abbrev columns : Option ℤ → Option ℤ → Option ℤ → Grid
columns u v w = grid 3 3 (n 9 ∷ u ∷ n 9 ∷ n 9 ∷ v ∷ n 9 ∷ n 0 ∷ n 0 ∷ w ∷ [])

abbrev apart : Grid
apart = columns (n 0) (n 0) (n 0)

-- a low cell that comes behind the right column's first cell joins it to the left column, which begins before it
pub columns-now : value_of five (apart ∷ []) (cell 1 2) ≡ n 3
columns-now = refl

pub columns-joined : value_of five (columns (n 0) (n 5) (n 0) ∷ []) (cell 1 2) ≡ n 1
columns-joined = refl

pub columns-joins : JoinsBefore (pos 5) apart (cell 0 2) (cell 1 1)
columns-joins = (cell 0 0, omega arith, inr (cell 1 0, refl, refl))

-- to the left column's label it is idle, as that column begins first
pub columns-left : value_of five (columns (n 0) (n 5) (n 0) ∷ []) (cell 1 0) ≡ n 1
columns-left = refl

pub columns-idle : Matters (site five apart (flat 3 3)) (apart ∷ []) 0 (cell 1 0) (cell 1 1) → ⊥
columns-idle matters =
    let joins = (rim_exactly-matter (pos 5) (site five apart (flat 3 3)) (apart ∷ []) (cell 1 0) (cell 1 1) (cell 0 0)
    refl (supported-five apart (cell 1 0) (cell 1 1) refl refl refl refl)
    (first-at apart (cell 1 0) (cell 0 0) 0 refl refl refl refl refl) refl).1 matters in
    omega (arith, joins.1)

-- a low cell that lies before the first cell of the right column joins nothing but itself there, were the left one low
pub columns-own : JoinsBefore (pos 5) apart (cell 0 2) (cell 0 1)
columns-own = (cell 0 1, omega arith, inl refl)

-- one below it, behind its first cell and beside no other region, is idle
pub columns-below : value_of five (columns (n 0) (n 0) (n 9) ∷ []) (cell 1 2) ≡ n 3
columns-below = refl

-- by the law: raised to 5 the label of the right column differs
pub columns-matter : ValueDiffers (site five apart (flat 3 3)) (apart ∷ []) 0 (cell 1 2) (cell 1 1) (n 5)
columns-matter =
    (rim_exactly-matter (pos 5) (site five apart (flat 3 3)) (apart ∷ []) (cell 1 2) (cell 1 1) (cell 0 2)
    refl (supported-five apart (cell 1 2) (cell 1 1) refl refl refl refl)
    (first-at apart (cell 1 2) (cell 0 2) 2 refl refl refl refl refl) refl).0 columns-joins

-- a region of one cell, behind which no other cell is high: the low cell behind it is idle, and the one before it not
abbrev lone : Option ℤ → Option ℤ → Grid
lone v w = grid 1 3 (v ∷ n 9 ∷ w ∷ [])

pub lone-before : value_of five (lone (n 5) (n 0) ∷ []) (cell 0 1) ≡ n 1
lone-before = refl

pub lone-behind : value_of five (lone (n 0) (n 5) ∷ []) (cell 0 1) ≡ n 2
lone-behind = refl

pub lone-idle :
    Matters (site five (lone (n 0) (n 0)) (flat 1 3)) (lone (n 0) (n 0) ∷ []) 0 (cell 0 1) (cell 0 2) → ⊥
lone-idle matters =
    let g = lone (n 0) (n 0) in
    let e = flat 1 3 in
    let joins = (rim_exactly-matter (pos 5) (site five g e) (g ∷ []) (cell 0 1) (cell 0 2) (cell 0 1) refl
    (supported-five g (cell 0 1) (cell 0 2) refl refl refl refl)
    (first-at g (cell 0 1) (cell 0 1) 1 refl refl refl refl refl) refl).1 matters in
    let index : index_of e joins.0 ≡ 0 = omega (arith, joins.1) in
    elim joins.2 [
      | inl own ↦ omega (arith, index, ap (index_of e) own)
      | inr found ↦
          let both = connected-both_high (pos 5) g found.0 joins.0 found.2 in
          let cell_is : joins.0 ≡ cell 0 0 = sym (cell-index e joins.0 both.2) ∙ ap (cell_of e) index in
          true≢false (sym both.3 ∙ ap (is_high (pos 5) g) cell_is)
    ]

-- ---- layers: in one layer the second low cell would join the third to the first, in two layers it does not

pub layers-one : value_of five (grid 4 1 (n 9 ∷ n 9 ∷ n 9 ∷ n 9 ∷ []) ∷ []) (cell 3 0) ≡ n 1
layers-one = refl

pub layers-two : value_of five (stack 2 2 1 (n 9 ∷ n 9 ∷ n 9 ∷ n 9 ∷ []) ∷ []) (cell 3 0) ≡ n 3
layers-two = refl

pub layers-first : IsFirst (pos 5) (stack 2 2 1 (n 9 ∷ n 0 ∷ n 0 ∷ n 9 ∷ [])) (cell 3 0) (cell 3 0)
layers-first = first-at (stack 2 2 1 (n 9 ∷ n 0 ∷ n 0 ∷ n 9 ∷ [])) (cell 3 0) (cell 3 0) 3 refl refl refl refl refl
