-- What follows of gaps between labels.
--
-- The key idea: two neighbours are at most as many indexes apart as a row has cells. So who goes from one to the next
-- from before a gap of so many indexes to behind it comes to a cell in it, which is connected to both and so has their
-- label.
use Rattle.std.proofs.Common.{◌≡◌, ℕ, ◌+◌, ◌*◌, ◌<◌, ◌≤◌, ℤ, Bool, true, false, ◌&&◌, ◌||◌, ◌==◌, List, [], ◌∷◌}
use Rattle.std.proofs.Common.{Option, Some, None, sym, ap, ap₂, subst, ◌∙◌, arith, inl, inr}
use Rattle.std.proofs.Common.{get_or, eqb-true, true≢false}
use Rattle.std.specs.List.{list_any}
use Rattle.std.proofs.lemmas.Bool.{and_parts, cases_Bool, cases_lt, or_cases, or_left, or_right, false_from_ne_true}
use Rattle.sz_cells.specs.declared.Cell.{Cell}
use Rattle.sz_cells.specs.Extent.{Extent, size_of, holds, index_of, cell_of, layer_of}
use Rattle.sz_cells.specs.Cells.{Cells, no_cells, with_those}
use Rattle.sz_cells.proofs.Sets.{cell-held, cell-index, index-cell, index-below, row-held}
use Rattle.sz_spec.specs.declared.op.Op.TheVariants.{Regions}
use Rattle.sz_spec.specs.Values.{Grid, input_at}
use Rattle.sz_spec.specs.Shapes.{Site}
use Rattle.sz_spec.specs.Evaluation.{output_of}
use Rattle.sz_spec.specs.LawsRegions.{Leads}
use Rattle.sz_spec.specs.Operators.Regions.{is_high, is_connected, are_neighbours, label_of, labelled_at}
use Rattle.sz_spec.specs.Work.{IsAtWork}
use Rattle.sz_spec.proofs.Components.{connected-self, connected-back, connected-parts, connected-led}
use Rattle.sz_spec.proofs.Components.{component-same, component-closed, leads-first}
use Rattle.sz_ops_region.proofs.Labels.{grid-shape}
use Rattle.sz_refresh.specs.Names.{named, is_at, has_named, EndAfter}
use Rattle.sz_refresh.proofs.Joined.{firsts, IsFirst, high-named, low-named, labelled-index, marked-shape}
use Rattle.sz_refresh.proofs.Names.{none-found}

-- a neighbour is at most a row of cells later
near-index : (e : Extent) (a b : Cell) → holds e a ≡ true → are_neighbours e a b ≡ true
    → index_of e b ≤ index_of e a + e.cols
near-index e a b held near =
    let wide = (row-held e a held).1 in
    let beside : Bool = (a.row == b.row) && ((a.col + 1 == b.col) || (b.col + 1 == a.col)) in
    let below : Bool = (a.col == b.col) && ((a.row + 1 == b.row) || (b.row + 1 == a.row)) in
    let both = and_parts (layer_of e a == layer_of e b) (beside || below) near in
    elim (or_cases beside below both.1) [
      | inl one ↦
          let parts = and_parts (a.row == b.row) ((a.col + 1 == b.col) || (b.col + 1 == a.col)) one in
          let row : a.row * e.cols ≡ b.row * e.cols = ap (λ (n : ℕ). n * e.cols) (eqb-true a.row b.row parts.0) in
          elim (or_cases (a.col + 1 == b.col) (b.col + 1 == a.col) parts.1) [
            | inl right ↦ omega (arith, row, wide, eqb-true (a.col + 1) b.col right)
            | inr left ↦ omega (arith, row, wide, eqb-true (b.col + 1) a.col left)
          ]
      | inr other ↦
          let parts = and_parts (a.col == b.col) ((a.row + 1 == b.row) || (b.row + 1 == a.row)) other in
          let col = eqb-true a.col b.col parts.0 in
          elim (or_cases (a.row + 1 == b.row) (b.row + 1 == a.row) parts.1) [
            | inl under ↦
                let row : (a.row + 1) * e.cols ≡ b.row * e.cols =
                ap (λ (n : ℕ). n * e.cols) (eqb-true (a.row + 1) b.row under) in
                let more : (a.row + 1) * e.cols ≡ a.row * e.cols + e.cols = grind arith in
                omega (arith, row, more, col)
            | inr over ↦
                let row : (b.row + 1) * e.cols ≡ a.row * e.cols =
                ap (λ (n : ℕ). n * e.cols) (eqb-true (b.row + 1) a.row over) in
                let more : (b.row + 1) * e.cols ≡ b.row * e.cols + e.cols = grind arith in
                omega (arith, row, more, col)
          ]
    ]

-- a cell in a gap that begins at an index
record IsBetween (t : ℤ) (g : Grid) (o : Cell) (w : ℕ) : Type 0 where
  pub cell : Cell
  pub held : holds g.extent cell ≡ true
  pub low : w ≤ index_of g.extent cell
  pub high : index_of g.extent cell < w + g.extent.cols
  pub near : is_connected t g o cell ≡ true

-- a list that leads over a gap comes to a cell in it
crossing : (t : ℤ) (g : Grid) (o x : Cell) (cells : List Cell) (w : ℕ) → Leads t g o cells x
    → index_of g.extent o < w → w + g.extent.cols ≤ index_of g.extent x → IsBetween t g o w
crossing t g o x [] w led low high =
    let same : index_of g.extent o ≡ index_of g.extent x = ap (index_of g.extent) led.2 in
    absurd (omega (arith, low, high, same))
crossing t g o x (c ∷ cells) w led low high =
    let e : Extent = g.extent in
    let next = leads-first t g c cells x led.3 in
    let step : is_connected t g o c ≡ true =
    component-closed t g o o c (connected-self t g o led.0 led.1) next.0 next.1 led.2 in
    elim (cases_lt (index_of e c) w) [
      | inl before ↦
          let rest : IsBetween t g c w = crossing t g c x cells w led.3 before high in
          record {
            cell = rest.cell;
            held = rest.held;
            low = rest.low;
            high = rest.high;
            near = connected-parts t g o c rest.cell step rest.near;
          }
      | inr there ↦
          record {
            cell = c;
            held = next.0;
            low = there;
            high = omega (arith, near-index e o c led.0 led.2, low);
            near = step;
          }
    ]

-- behind a gap in which no label names a marked cell, where all marked cells are before it, none does
side-ends : (s : Site) (inputs : List Grid) (t : ℤ) (out : Grid) (from marked : Cells) (values : List (Option ℤ))
    (w k : ℕ) → s.op ≡ Regions t → IsAtWork s inputs → out ≡ output_of s.op inputs
    → marked ≡ with_those (no_cells out.extent) (firsts out from) → values ≡ out.values
    → ((j : ℕ) → list_any (λ i. i == j) marked.indexes ≡ true → j < w)
    → ((j : ℕ) → w ≤ j → j < w + s.out.cols → has_named 1 (get_or values j None) marked ≡ false)
    → w + s.out.cols ≤ k → k < size_of s.out → has_named 1 (get_or values k None) marked ≡ false
side-ends s inputs t out from marked values w k is work made marks held_values before gap high few =
    let g : Grid = input_at inputs 0 in
    let e : Extent = g.extent in
    let o : Cell = cell_of s.out k in
    let shape : e ≡ s.out = grid-shape s inputs t is work in
    let cols : e.cols ≡ s.out.cols = ap (λ (d : Extent). d.cols) shape in
    let here : holds e o ≡ true = ap (λ (d : Extent). holds d o) shape ∙ cell-held s.out k few in
    let place : index_of e o ≡ k = ap (λ (d : Extent). index_of d o) shape ∙ index-cell s.out k in
    let value = labelled-index s inputs t out values k is work made held_values few in
    let sides : marked.extent ≡ e = marked-shape s inputs t out from marked is work made marks in
    false_from_ne_true (has_named 1 (get_or values k None) marked)
    (λ found.
    elim (cases_Bool (is_high t g o)) [
      | inl up ↦
          let one : IsFirst t g o (get_or values k None) = high-named t g (get_or values k None) o value here up in
          let first : Cell = cell_of e one.place in
          let marks_it : list_any (λ i. i == one.place) marked.indexes ≡ true =
          sym (ap (λ (d : Extent). list_any (is_at (named 1 (size_of d) (get_or values k None))) marked.indexes) sides
          ∙ ap (λ (p : Option ℕ). list_any (is_at p) marked.indexes) one.is)
          ∙ found in
          let led = connected-led t g first o (connected-back t g o first one.there) in
          let low : index_of e first < w =
          subst (λ (n : ℕ). n < w) (sym (index-cell e one.place)) (before one.place marks_it) in
          let at : IsBetween t g first w =
          crossing t g first o led.0 w led.1 low (omega (arith, high, cols, place)) in
          let j : ℕ = index_of e at.cell in
          let fewer : j < size_of s.out =
          subst (λ (d : Extent). j < size_of d) shape (index-below e at.cell at.held) in
          let itself : cell_of s.out j ≡ at.cell =
          ap (λ (d : Extent). cell_of d j) (sym shape) ∙ cell-index e at.cell at.held in
          let joined : is_connected t g o at.cell ≡ true =
          connected-parts t g o first at.cell one.there at.near in
          let same : get_or values j None ≡ get_or values k None =
          labelled-index s inputs t out values j is work made held_values fewer
          ∙ ap (labelled_at t g) itself
          ∙ ap (λ (z : Cells). Some (label_of z.indexes)) (component-same t g o at.cell joined)
          ∙ sym value in
          true≢false (sym found
          ∙ ap (λ (v : Option ℤ). has_named 1 v marked) (sym same)
          ∙ gap j at.low (omega (arith, at.high, cols)))
      | inr down ↦
          true≢false (sym found
          ∙ ap (λ (p : Option ℕ). list_any (is_at p) marked.indexes)
          (low-named t g (get_or values k None) (size_of marked.extent) o value down)
          ∙ none-found marked.indexes)
    ])

neither-left : (a b : Bool) → (a || b) ≡ false → a ≡ false
neither-left a b none = false_from_ne_true a (λ t. true≢false (sym (or_left a b t) ∙ none))

neither-right : (a b : Bool) → (a || b) ≡ false → b ≡ false
neither-right a b none = false_from_ne_true b (λ t. true≢false (sym (or_right a b t) ∙ none))

-- the same of the old labels and the new ones
pub joined-ends : (s : Site) (a b : List Grid) (t : ℤ) (old new : Grid) (from was now : Cells)
    (olds news : List (Option ℤ)) → s.op ≡ Regions t → IsAtWork s a → IsAtWork s b
    → old ≡ output_of s.op a → new ≡ output_of s.op b
    → was ≡ with_those (no_cells old.extent) (firsts old from)
    → now ≡ with_those (no_cells new.extent) (firsts new from) → olds ≡ old.values → news ≡ new.values
    → EndAfter s.out.cols 1 olds was news now (size_of s.out)
joined-ends s a b t old new from was now olds news is work_a work_b made_a made_b marks_a marks_b read_a read_b w k
    in_was in_now gap high few =
    ap₂ (λ (p q : Bool). p || q)
    (side-ends s a t old from was olds w k is work_a made_a marks_a read_a in_was
    (λ j low below.
    neither-left (has_named 1 (get_or olds j None) was) (has_named 1 (get_or news j None) now) (gap j low below)) high
    few)
    (side-ends s b t new from now news w k is work_b made_b marks_b read_b in_now
    (λ j low below.
    neither-right (has_named 1 (get_or olds j None) was) (has_named 1 (get_or news j None) now) (gap j low below)) high
    few)
