-- What follows of inputs that are changed at one cell.
--
-- The key idea: the changed array is a map over the indexes of its shape, so what it holds at a cell is what the map
-- makes of the cell's index.
use Rattle.std.proofs.Common.{◌≡◌, ℕ, zero, suc, ◌<◌, ℤ, Bool, true, false, not, ◌==◌, if◌then◌else◌}
use Rattle.std.proofs.Common.{List, [], ◌∷◌, length, Option, None, refl, sym, ap, ◌∙◌, arith, inl, inr, zero-add}
use Rattle.std.proofs.Common.{eq-eqb, eqb-true}
use Rattle.std.proofs.lemmas.Bool.{cases_Bool, true≢false, eqb-false}
use Rattle.std.proofs.lemmas.List.{length-map}
use Rattle.std.proofs.lemmas.List.FromFn.{get_or-map-range_with_len}
use Rattle.std.proofs.lemmas.Option.{unwrap_or-slice_get}
use Rattle.sz_cells.specs.declared.Cell.{Cell}
use Rattle.sz_cells.specs.Extent.{Extent, size_of, holds, index_of, cell_of}
use Rattle.sz_cells.specs.Cells.{is_same}
use Rattle.sz_cells.proofs.Sets.{index-below, cell-index, is_same-from}
use Rattle.sz_spec.specs.Values.{Grid, value_at, input_at, extent_at, extents_of}
use Rattle.sz_spec.specs.Shapes.{Site}
use Rattle.sz_spec.specs.Work.{IsAtWork}
use Rattle.sz_spec.proofs.PayloadLineage.{extent-of_site}
use Rattle.sz_support.specs.Changes.{with_value, changed_at}
use Rattle.sz_support.specs.LawsMatter.{ChangedInputsDifferThere}

-- ---- one array

-- what the map makes of the index of a cell
with-at : (g : Grid) (x y : Cell) (v : Option ℤ) → holds g.extent y ≡ true
    → value_at (with_value g x v) y
    ≡ (if index_of g.extent y == index_of g.extent x then v else value_at g y)
with-at g x y v held =
    let e = g.extent in
    let f : ℕ → Option ℤ = λ k. if k == index_of e x then v else value_at g (cell_of e k) in
    unwrap_or-slice_get (with_value g x v).values (index_of e y) None
    ∙ get_or-map-range_with_len f 0 (size_of e) (index_of e y) (index_of e y) None (index-below e y held)
    (zero-add (index_of e y))
    ∙ ap (λ (c : Cell). if index_of e y == index_of e x then v else value_at g c) (cell-index e y held)

pub with-there : (g : Grid) (x : Cell) (v : Option ℤ) → holds g.extent x ≡ true → value_at (with_value g x v) x ≡ v
with-there g x v held = with-at g x x v held ∙ rw (eq-eqb (index_of g.extent x) (index_of g.extent x) refl) refl

pub with-others : (g : Grid) (x y : Cell) (v : Option ℤ) → holds g.extent x ≡ true → holds g.extent y ≡ true
    → is_same y x ≡ false → value_at (with_value g x v) y ≡ value_at g y
with-others g x y v held held_y other =
    let e = g.extent in
    with-at g x y v held_y
    ∙ elim (cases_Bool (index_of e y == index_of e x)) [
      | inl same ↦
          let one = eqb-true (index_of e y) (index_of e x) same in
          let cells : y ≡ x = sym (cell-index e y held_y) ∙ ap (cell_of e) one ∙ cell-index e x held in
          absurd (true≢false (sym (is_same-from y x cells) ∙ other))
      | inr apart ↦ rw apart refl
    ]

-- ---- all inputs

pub changed-extents : (inputs : List Grid) (i : ℕ) (x : Cell) (v : Option ℤ)
    → extents_of (changed_at inputs i x v) ≡ extents_of inputs
changed-extents [] i x v = refl
changed-extents (g ∷ inputs) zero x v = refl
changed-extents (g ∷ inputs) (suc i) x v = ap (λ (es : List Extent). g.extent ∷ es) (changed-extents inputs i x v)

pub changed-there : (inputs : List Grid) (i : ℕ) (x : Cell) (v : Option ℤ) → i < length inputs
    → input_at (changed_at inputs i x v) i ≡ with_value (input_at inputs i) x v
changed-there [] i x v inside = absurd (omega arith)
changed-there (g ∷ inputs) zero x v inside = refl
changed-there (g ∷ inputs) (suc i) x v inside = changed-there inputs i x v (omega arith)

pub changed-others : (inputs : List Grid) (i j : ℕ) (x : Cell) (v : Option ℤ) → (j ≡ i → ⊥)
    → input_at (changed_at inputs i x v) j ≡ input_at inputs j
changed-others [] i j x v other = refl
changed-others (g ∷ inputs) zero zero x v other = absurd (other refl)
changed-others (g ∷ inputs) zero (suc j) x v other = refl
changed-others (g ∷ inputs) (suc i) zero x v other = refl
changed-others (g ∷ inputs) (suc i) (suc j) x v other =
    changed-others inputs i j x v (λ same. other (omega arith))

-- an operator at work is so over changed inputs
pub changed-work : (s : Site) (inputs : List Grid) (i : ℕ) (x : Cell) (v : Option ℤ) → IsAtWork s inputs
    → IsAtWork s (changed_at inputs i x v)
changed-work s inputs i x v work = record {
  site = work.site;
  shapes = changed-extents inputs i x v ∙ work.shapes;
  right = work.right;
}

-- there are as many inputs as shapes
pub inputs-many : (s : Site) (inputs : List Grid) → IsAtWork s inputs → length inputs ≡ length s.ins
inputs-many s inputs work = sym (length-map inputs (λ (g : Grid). g.extent)) ∙ ap length work.shapes

-- the value at the changed cell
pub changed-value : (s : Site) (inputs : List Grid) (i : ℕ) (x : Cell) (v : Option ℤ) → IsAtWork s inputs
    → i < length s.ins → holds (extent_at s.ins i) x ≡ true
    → value_at (input_at (changed_at inputs i x v) i) x ≡ v
changed-value s inputs i x v work inside held =
    ap (λ (g : Grid). value_at g x) (changed-there inputs i x v (omega (arith, inputs-many s inputs work)))
    ∙ with-there (input_at inputs i) x v (ap (λ (e : Extent). holds e x) (extent-of_site s inputs i work) ∙ held)

pub changed-differs : ChangedInputsDifferThere
changed-differs s inputs i x v work inside held = record {
  work = changed-work s inputs i x v work;
  there = changed-value s inputs i x v work inside held;
  others = λ j y inside_j held_y other.
      elim (cases_Bool (j == i)) [
        | inl same ↦
            let number = eqb-true j i same in
            let to_x : holds (input_at inputs i).extent x ≡ true =
            ap (λ (e : Extent). holds e x) (extent-of_site s inputs i work) ∙ held in
            let to_y : holds (input_at inputs i).extent y ≡ true =
            ap (λ (k : ℕ). holds (input_at inputs k).extent y) (sym number)
            ∙ ap (λ (e : Extent). holds e y) (extent-of_site s inputs j work) ∙ held_y in
            let apart : is_same y x ≡ false = not-true (is_same y x) (rw same at other) in
            ap (λ (k : ℕ). value_at (input_at inputs k) y) number
            ∙ sym (with-others (input_at inputs i) x y v to_x to_y apart)
            ∙ sym (ap (λ (g : Grid). value_at g y)
            (changed-there inputs i x v (omega (arith, inputs-many s inputs work))))
            ∙ ap (λ (k : ℕ). value_at (input_at (changed_at inputs i x v) k) y) (sym number)
        | inr apart ↦ sym (ap (λ (g : Grid). value_at g y) (changed-others inputs i j x v (eqb-false j i apart)))
      ];
} where
  not-true : (b : Bool) → not b ≡ true → b ≡ false
  not-true true h = sym h
  not-true false h = refl
