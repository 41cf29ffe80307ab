-- What follows of folds that count or sum: that each supporting cell matters.
--
-- The key idea: the numbers that are folded are those of the cells before x, then that of x if it is there, then those
-- of the cells behind it; all but the middle one are the same in the changed inputs.
use Rattle.std.proofs.Common.{◌≡◌, ℕ, zero, suc, ◌+◌, ◌-◌, ◌<◌, ◌≤◌, ℤ, pos, ◌+ℤ◌, Bool, true, List, [], ◌∷◌, ◌++◌}
use Rattle.std.proofs.Common.{length, Option, Some, None, refl, sym, ap, ap₂, ◌∙◌, arith, fold, length-append, inl, inr}
use Rattle.std.proofs.lemmas.Bool.{cases_Bool, false_from_ne_true}
use Rattle.std.proofs.lemmas.Int.{ints}
use Rattle.std.proofs.lemmas.List.Elements.{filter-append, filter_map-append}
use Rattle.std.specs.List.{filter, filter_map, cons_option, range_with_len}
use Rattle.sz_cells.specs.declared.Cell.{Cell}
use Rattle.sz_cells.specs.Extent.{Extent, size_of, holds, index_of, cell_of}
use Rattle.sz_cells.specs.Cells.{is_same, cells_where}
use Rattle.sz_cells.proofs.Sets.{index-below, cell-index, index-cell, cell-held, is_same-true}
use Rattle.sz_cells.proofs.Windows.{range-append}
use Rattle.sz_spec.specs.declared.op.Op.{Op}
use Rattle.sz_spec.specs.declared.op.Op.TheVariants.{Block, FoldLayers}
use Rattle.sz_spec.specs.declared.op.Fold.{Fold}
use Rattle.sz_spec.specs.declared.op.Fold.TheVariants.{Sum, Count}
use Rattle.sz_spec.specs.Values.{Grid, fit, value_at, numbers_at, input_at, extent_at, extents_of, total}
use Rattle.sz_spec.specs.Shapes.{Site, arity}
use Rattle.sz_spec.specs.Lineage.{mapped, related}
use Rattle.sz_spec.specs.Evaluation.{value_of, mapped_numbers}
use Rattle.sz_spec.specs.Operators.Folds.{fold_of}
use Rattle.sz_spec.specs.Supports.{supports}
use Rattle.sz_spec.proofs.OutputValues.{total-from}
use Rattle.sz_spec.proofs.PayloadLineage.{related-inputs, extent-of_site}
use Rattle.sz_support.specs.Changes.{with_value, changed_at, IsSupported}
use Rattle.sz_support.specs.LawsMatter.{EachMattersByPresence, EachMattersWhereNumber, CountedCellsMatter}
use Rattle.sz_support.specs.LawsMatter.{CountedCellsOfLayersMatter, SummedCellsMatter, SummedCellsOfLayersMatter}
use Rattle.sz_support.proofs.ChangedInputs.{with-there, with-others, changed-extents, changed-there, inputs-many}
use Rattle.sz_support.proofs.Differing.{ReadsAt, by-presence, IsSharp, by-sharp, fit-number}

-- ---- the numbers of many cells, around one of them

-- numbers that agree on a range
numbers-same : (f g : ℕ → Option ℤ) (q : ℕ → Bool) (a n : ℕ) → ((k : ℕ) → a ≤ k → k < a + n → f k ≡ g k)
    → filter_map f (filter q (range_with_len a n)) ≡ filter_map g (filter q (range_with_len a n))
numbers-same f g q a zero same = refl
numbers-same f g q a (suc n) same =
    let rest = numbers-same f g q (a + 1) n (λ k low high. same k (omega arith) (omega arith)) in
    elim (cases_Bool (q a)) [
      | inl kept ↦ rw (kept, same a (omega arith) (omega arith), rest) refl
      | inr left ↦ rw left rest
    ]

-- those of a range that has a number which passes: before it, its own, behind it
numbers-around : (f : ℕ → Option ℤ) (q : ℕ → Bool) (i r : ℕ) → q i ≡ true
    → filter_map f (filter q (range_with_len 0 (i + suc r)))
    ≡ filter_map f (filter q (range_with_len 0 i))
    ++ cons_option (f i) (filter_map f (filter q (range_with_len (i + 1) r)))
numbers-around f q i r passes =
    let number : 0 + i ≡ i = omega arith in
    let behind : filter_map f (filter q (range_with_len i (suc r)))
    ≡ cons_option (f i) (filter_map f (filter q (range_with_len (i + 1) r))) = rw passes refl in
    ap (λ (ks : List ℕ). filter_map f (filter q ks)) (range-append i 0 (suc r))
    ∙ ap (filter_map f) (filter-append q (range_with_len 0 i) (range_with_len (0 + i) (suc r)))
    ∙ filter_map-append f (filter q (range_with_len 0 i)) (filter q (range_with_len (0 + i) (suc r)))
    ∙ ap (λ (k : ℕ). filter_map f (filter q (range_with_len 0 i)) ++ filter_map f (filter q (range_with_len k (suc r))))
    number
    ∙ ap (λ (zs : List ℤ). filter_map f (filter q (range_with_len 0 i)) ++ zs) behind

-- the numbers of an array's cells around cell x, that of x apart
abbrev pub before : Grid → (Cell → Bool) → Cell → List ℤ
before g p x = filter_map (λ k. value_at g (cell_of g.extent k))
    (filter (λ k. p (cell_of g.extent k)) (range_with_len 0 (index_of g.extent x)))

abbrev pub behind : Grid → (Cell → Bool) → Cell → List ℤ
behind g p x = filter_map (λ k. value_at g (cell_of g.extent k))
    (filter (λ k. p (cell_of g.extent k))
    (range_with_len (index_of g.extent x + 1) (size_of g.extent - (index_of g.extent x + 1))))

abbrev pub around : Grid → (Cell → Bool) → Cell → Option ℤ → List ℤ
around g p x v = before g p x ++ cons_option v (behind g p x)

numbers-of : (g : Grid) (p : Cell → Bool) (x : Cell) → holds g.extent x ≡ true → p x ≡ true
    → numbers_at g (cells_where g.extent p) ≡ around g p x (value_at g x)
numbers-of g p x held passes =
    let e = g.extent in
    let f : ℕ → Option ℤ = λ k. value_at g (cell_of e k) in
    let q : ℕ → Bool = λ k. p (cell_of e k) in
    let i = index_of e x in
    let r = size_of e - (i + 1) in
    let below = index-below e x held in
    let back = cell-index e x held in
    let size : size_of e ≡ i + suc r = omega arith in
    ap (λ (n : ℕ). filter_map f (filter q (range_with_len 0 n))) size
    ∙ numbers-around f q i r (ap p back ∙ passes)
    ∙ ap (λ (c : Cell). before g p x ++ cons_option (value_at g c) (behind g p x)) back

-- with a new value at x those around it stay
around-kept : (g : Grid) (p : Cell → Bool) (x : Cell) (v w : Option ℤ) → holds g.extent x ≡ true
    → around (with_value g x v) p x w ≡ around g p x w
around-kept g p x v w held =
    let e = g.extent in
    let f : ℕ → Option ℤ = λ k. value_at (with_value g x v) (cell_of e k) in
    let h : ℕ → Option ℤ = λ k. value_at g (cell_of e k) in
    let q : ℕ → Bool = λ k. p (cell_of e k) in
    let i = index_of e x in
    let below = index-below e x held in
    let apart : (k : ℕ) → k < size_of e → (k ≡ i → ⊥) → f k ≡ h k =
    λ k inside other.
    with-others g x (cell_of e k) v held (cell-held e k inside)
    (false_from_ne_true (is_same (cell_of e k) x)
    (λ same. other (sym (index-cell e k) ∙ ap (index_of e) (is_same-true (cell_of e k) x same)))) in
    ap₂ (λ (xs ys : List ℤ). xs ++ cons_option w ys)
    (numbers-same f h q 0 i (λ k low high. apart k (omega arith) (λ same. omega arith)))
    (numbers-same f h q (i + 1) (size_of e - (i + 1)) (λ k low high. apart k (omega arith) (λ same. omega arith)))

-- ---- folds

-- an operator that folds the numbers of the cells that it is mapped to
pub record IsFolding (op : Op) (fold : Fold) : Type 0 where
  pub one : arity op ≡ 1
  pub value : (gs : List Grid) (o : Cell) → value_of op gs o ≡ fold_of fold (mapped_numbers op gs o)
  pub supported : (gs : List Grid) (i : ℕ) (o x : Cell) → supports op gs i o x ≡ related op gs i o x
  pub mapping : (gs : List Grid) (i : ℕ) (o x : Cell) → supports op gs i o x ≡ mapped op (extents_of gs) i o x

pub reads-folded : (op : Op) (fold : Fold) → IsFolding op fold → (s : Site) (inputs : List Grid) (i : ℕ) (o x : Cell)
    → s.op ≡ op → IsSupported s inputs i o x
    → ReadsAt s inputs i o x
    (λ v. fold_of fold (around (input_at inputs 0) (mapped op (extents_of inputs) 0 o) x v))
reads-folded op fold folding s inputs i o x is known =
    let es = extents_of inputs in
    let g = input_at inputs 0 in
    let p = mapped op es 0 o in
    let told : supports op inputs i o x ≡ true =
    sym (ap (λ (a : Op). supports a inputs i o x) is) ∙ known.supports in
    let first = related-inputs op inputs i o x (sym (folding.supported inputs i o x) ∙ told) in
    let number : i ≡ 0 = omega (arith, first, folding.one) in
    let many : length s.ins ≡ 1 = ((known.work).site).arity ∙ ap arity is ∙ folding.one in
    let passes : p x ≡ true =
    ap (λ (k : ℕ). mapped op es k o x) (sym number) ∙ sym (folding.mapping inputs i o x) ∙ told in
    let held : holds g.extent x ≡ true =
    ap (λ (e : Extent). holds e x) (extent-of_site s inputs 0 known.work)
    ∙ ap (λ (k : ℕ). holds (extent_at s.ins k) x) (sym number) ∙ known.there in
    let value : (gs : List Grid) → value_of s.op gs o ≡ fold_of fold (mapped_numbers op gs o) =
    λ gs. ap (λ (a : Op). value_of a gs o) is ∙ folding.value gs o in
    record {
      now = value inputs
          ∙ ap (fold_of fold) (numbers-of g p x held passes)
          ∙ ap (λ (k : ℕ). fold_of fold (around g p x (value_at (input_at inputs k) x))) (sym number);
      changed = λ v.
          let there : input_at (changed_at inputs i x v) 0 ≡ with_value g x v =
          ap (λ (k : ℕ). input_at (changed_at inputs k x v) 0) number
          ∙ changed-there inputs 0 x v (omega (arith, many, inputs-many s inputs known.work)) in
          value (changed_at inputs i x v)
          ∙ ap₂ (λ (d : Grid) (z : List Extent). fold_of fold (numbers_at d (cells_where d.extent (mapped op z 0 o))))
          there (changed-extents inputs i x v)
          ∙ ap (fold_of fold) (numbers-of (with_value g x v) p x held passes)
          ∙ ap (λ (w : Option ℤ). fold_of fold (around (with_value g x v) p x w)) (with-there g x v held)
          ∙ ap (fold_of fold) (around-kept g p x v v held);
    }

pub folding-block : (fold : Fold) (height width : ℕ) → IsFolding (Block fold height width) fold
folding-block fold height width =
    record { one = refl; value = λ gs o. refl; supported = λ gs i o x. refl; mapping = λ gs i o x. refl }

pub folding-layers : (fold : Fold) → IsFolding (FoldLayers fold) fold
folding-layers fold =
    record { one = refl; value = λ gs o. refl; supported = λ gs i o x. refl; mapping = λ gs i o x. refl }

-- ---- counts

count-apart : (xs ys : List ℤ) → fold_of Count (xs ++ cons_option None ys)
    ≡ fold_of Count (xs ++ cons_option (Some (pos 0)) ys)
    → ⊥
count-apart xs ys h =
    let same : length (xs ++ ys) ≡ length (xs ++ pos 0 ∷ ys) = cc in
    omega (arith, length-append xs ys, length-append xs (pos 0 ∷ ys), same)

counted-matter : (op : Op) → IsFolding op Count → EachMattersByPresence op
counted-matter op folding s inputs i o x is known =
    let g = input_at inputs 0 in
    let p = mapped op (extents_of inputs) 0 o in
    by-presence s inputs i o x (λ v. fold_of Count (around g p x v))
    (reads-folded op Count folding s inputs i o x is known) (count-apart (before g p x) (behind g p x))

pub counts-matter : CountedCellsMatter
counts-matter height width = counted-matter (Block Count height width) (folding-block Count height width)

pub counts-of_layers_matter : CountedCellsOfLayersMatter
counts-of_layers_matter = counted-matter (FoldLayers Count) (folding-layers Count)

-- ---- sums

total-cons : (z : ℤ) (zs : List ℤ) → total (z ∷ zs) ≡ z +ℤ total zs
total-cons z zs = let first = total-from (pos 0 +ℤ z) zs in omega (arith, ints)

pub total-around : (xs ys : List ℤ) (z : ℤ) → total (xs ++ z ∷ ys) ≡ z +ℤ total (xs ++ ys)
total-around [] ys z = total-cons z ys
total-around (x ∷ xs) ys z =
    let one = total-cons x (xs ++ z ∷ ys) in
    let two = total-around xs ys z in
    let three = total-cons x (xs ++ ys) in
    omega (arith, ints)

-- a sum with a number among those that are summed
pub sum-around : (xs ys : List ℤ) (z : ℤ) → fold_of Sum (xs ++ z ∷ ys) ≡ fit (total (xs ++ z ∷ ys))
sum-around [] ys z = refl
sum-around (x ∷ xs) ys z = refl

sum-sharp : (xs ys : List ℤ) → IsSharp (λ v. fold_of Sum (xs ++ cons_option v ys))
sum-sharp xs ys z r first second =
    let one = fit-number (total (xs ++ z ∷ ys)) r (sym (sum-around xs ys z) ∙ first) in
    let two = fit-number (total (xs ++ pos 0 ∷ ys)) r (sym (sum-around xs ys (pos 0)) ∙ second) in
    let three = total-around xs ys z in
    let four = total-around xs ys (pos 0) in
    omega (arith, ints)

summed-matter : (op : Op) → IsFolding op Sum → EachMattersWhereNumber op
summed-matter op folding s inputs i o x is known can =
    let g = input_at inputs 0 in
    let p = mapped op (extents_of inputs) 0 o in
    by-sharp s inputs i o x (λ v. fold_of Sum (around g p x v))
    (reads-folded op Sum folding s inputs i o x is known) (sum-sharp (before g p x) (behind g p x)) can

pub sums-matter : SummedCellsMatter
sums-matter height width = summed-matter (Block Sum height width) (folding-block Sum height width)

pub sums-of_layers_matter : SummedCellsOfLayersMatter
sums-of_layers_matter = summed-matter (FoldLayers Sum) (folding-layers Sum)
