-- What follows of what a value depends on: on the cells to which its cell is related by the old inputs, for
-- regions by the new ones too, and on no others.
--
-- The key idea: each operator reads related cells alone. Where it reads one cell, that cell is a place of the
-- input's shape and related; where it folds many, it folds over related cells, and two lists of equal values
-- have one fold. High, hot and matched are read at the cell itself, which is related to itself. A list of high
-- neighbours that leads on from a cell passes connected cells alone, so it leads on through the new values too,
-- and the old component is the new one.
use Rattle.std.proofs.Common.{◌≡◌, ℕ, zero, suc, ◌+◌, ◌-◌, ◌/◌, ◌<◌, ℤ, Bool, true, false}
use Rattle.std.proofs.Common.{◌&&◌, ◌||◌, ◌==◌}
use Rattle.std.proofs.Common.{nat_lt, nat_le, if◌then◌else◌, List, [], ◌∷◌, length, All, Option}
use Rattle.std.proofs.Common.{Some, None, Ok, refl}
use Rattle.std.proofs.Common.{sym, ap, ap₂, subst, ◌∙◌, arith, inl, inr, lt-ltb, ltb-true, eq-eqb, le-leb}
use Rattle.std.proofs.Common.{get_or, neg_ℤ, ◌+ℤ◌, ◌-ℤ◌, ◌*ℤ◌}
use Rattle.std.proofs.Common.{Result}
use Rattle.std.specs.Prelude.{option_and_then, option_map, not, int_le}
use Rattle.std.specs.List.{filter, filter_map, list_any, range_with_len, reduce}
use Rattle.std.specs.Int.{int_min, int_max}
use Rattle.std.specs.Result.{result_unwrap_or}
use Rattle.std.proofs.lemmas.Bool.{cases_Bool, and_parts, and_from, or_left, or_right, leb-true}
use Rattle.std.proofs.lemmas.List.Elements.{All-filter, filter_passes}
use Rattle.std.proofs.lemmas.List.Folds.{list_any_at}
use Rattle.sz_cells.specs.declared.Cell.{Cell}
use Rattle.sz_cells.specs.Extent.{Extent, size_of, height_of, is_extent, layered, holds, cell_of}
use Rattle.sz_cells.specs.Extent.{layer_of, row_in, is_place}
use Rattle.sz_cells.specs.Extent.{cell_in}
use Rattle.sz_cells.specs.Cells.{Cells, is_same, cells_where}
use Rattle.sz_cells.proofs.Sets.{same_truth, cells_where-ext, is_same-refl, cell-held, row-held}
use Rattle.sz_cells.proofs.Shapes.{sides, height-layered, cell-has_place, place-has_cell}
use Rattle.sz_spec.specs.declared.op.Op.{Op}
use Rattle.sz_spec.specs.declared.op.Op.TheVariants.{Neg, Abs, AddK, MulK, Clip, Add, Sub, Mul, Min}
use Rattle.sz_spec.specs.declared.op.Op.TheVariants.{Max, Transpose, Slice, Convolve, Block, Lookup}
use Rattle.sz_spec.specs.declared.op.Op.TheVariants.{Regions, Clean, FoldLayers}
use Rattle.sz_spec.specs.declared.shapes.ShapeFault.{ShapeFault}
use Rattle.sz_spec.specs.Operators.Elementwise.{absolute, clipped}
use Rattle.sz_spec.specs.Values.{Grid, fit, value_at, numbers_at, input_at, extent_at, extents_of}
use Rattle.sz_spec.specs.Values.{no_extent}
use Rattle.sz_spec.specs.Values.{with_number, with_numbers}
use Rattle.sz_spec.specs.Weights.{Weights, Tap, taps_of}
use Rattle.sz_spec.specs.Shapes.{Site, arity, shape_of, output_extent, same_shape}
use Rattle.sz_spec.specs.Lineage.{mapped, mapped_between, related}
use Rattle.sz_spec.specs.Evaluation.{of_two, in_layer_of, mapped_numbers, value_in}
use Rattle.sz_spec.specs.Modes.{has_mapping}
use Rattle.sz_spec.specs.Operators.Convolve.{is_under, is_convolved, is_in_range, cell_under}
use Rattle.sz_spec.specs.Operators.Convolve.{term_of, sum_of_all}
use Rattle.sz_spec.specs.Operators.Convolve.{convolved_at}
use Rattle.sz_spec.specs.Operators.Folds.{fold_of}
use Rattle.sz_spec.specs.Operators.Lookup.{column_of, match_of, entry_at, is_entry}
use Rattle.sz_spec.specs.Operators.Regions.{is_high, component_of, is_connected, label_of}
use Rattle.sz_spec.specs.Operators.Regions.{labelled_at}
use Rattle.sz_spec.specs.Operators.Clean.{is_at_least, is_hot, is_in_square, is_near, cleaned_at}
use Rattle.sz_spec.specs.LawsShapes.{AreExtents}
use Rattle.sz_spec.specs.LawsRegions.{Leads}
use Rattle.sz_spec.specs.Work.{IsAtWork}
use Rattle.sz_spec.specs.Evaluation.{value_of}
use Rattle.sz_spec.specs.LawsDependence.{AgreeWhere, is_regions, ValuesDependOnRelatedCells}
use Rattle.sz_spec.specs.LawsDependence.{RelationsDependOnRelatedCells, ValuesDependOnEitherRelation}
use Rattle.sz_spec.specs.LawsDependence.{RelationsDependOnEitherRelation}
use Rattle.sz_spec.proofs.OutputShapes.{extent-right, output-right, same-shape_first}
use Rattle.sz_spec.proofs.OutputShapes.{same-shape_second, sliced-within}
use Rattle.sz_spec.proofs.OutputShapes.{looked-up_shape}
use Rattle.sz_spec.proofs.Components.{component-made, component-closed, connected-self}
use Rattle.sz_spec.proofs.Components.{connected-led, led-connected}
use Rattle.sz_spec.proofs.Components.{label-low, leads-first}
use Rattle.sz_spec.proofs.PayloadLineage.{extent-of_site, related-mapped, match-below}
use Rattle.sz_spec.proofs.FlowOutputs.{map-agree}

-- an array of a shape with other values, and an array as one of a shape that is its own
abbrev sheet : Extent → List (Option ℤ) → Grid
sheet e values = record { extent = e; values = values }

as-sheet : (g : Grid) (e : Extent) → g.extent ≡ e → g ≡ sheet e g.values
as-sheet g e same = ap (λ (d : Extent). sheet d g.values) same

-- arrays that hold the same value at each cell of their shape that passes a test
abbrev AgreeOn : Extent → (Cell → Bool) → Grid → Grid → Type 0
AgreeOn e test a b = (x : Cell) → holds e x ≡ true → test x ≡ true → value_at a x ≡ value_at b x

-- ---- numbers of many cells

filter_map-agree : (f g : ℕ → Option ℤ) (p : ℕ → Bool) (a n : ℕ)
    → ((k : ℕ) → k < a + n → p k ≡ true → f k ≡ g k)
    → filter_map f (filter p (range_with_len a n)) ≡ filter_map g (filter p (range_with_len a n))
filter_map-agree f g p a zero same = refl
filter_map-agree f g p a (suc n) same =
    let rest = filter_map-agree f g p (a + 1) n (λ k high. same k (omega arith)) in
    elim (cases_Bool (p a)) [
      | inl kept ↦ rw (kept, same a (omega arith) kept, rest) refl
      | inr left ↦ rw left rest
    ]

numbers-agree : (e : Extent) (p : Cell → Bool) (a b : Grid) → AgreeOn e p a b
    → numbers_at a (cells_where e p) ≡ numbers_at b (cells_where e p)
numbers-agree e p a b same =
    filter_map-agree (λ k. value_at a (cell_of e k)) (λ k. value_at b (cell_of e k)) (λ k. p (cell_of e k)) 0
    (size_of e)
    (λ k high passes. same (cell_of e k) (cell-held e k (omega arith)) passes)

-- ---- one cell of the layer

-- the cell of a place is one of the shape
in-layer_agree : (e : Extent) (layer row col : ℕ) (a b : Grid) (test : Cell → Bool) → is_extent e ≡ true
    → is_place e layer row col ≡ true → test (cell_in e layer row col) ≡ true → AgreeOn e test a b
    → value_at a (cell_in e layer row col) ≡ value_at b (cell_in e layer row col)
in-layer_agree e layer row col a b test right place passes same =
    same (cell_in e layer row col) (place-has_cell e layer row col right place).0 passes

-- a cell of a shape has a layer, a row in it and a column
pub place-of : (e : Extent) (c : Cell) → is_extent e ≡ true → holds e c ≡ true
    → (layer_of e c < e.layers) × (row_in e c < height_of e) × (c.col < e.cols)
place-of e c right held =
    let outer = and_parts _ (nat_lt c.col e.cols) (cell-has_place e c right held).0 in
    let inner = and_parts _ _ outer.0 in (
      ltb-true (layer_of e c) e.layers inner.0,
      ltb-true (row_in e c) (height_of e) inner.1,
      ltb-true c.col e.cols outer.1,
    )

-- the test that a place is one of a shape
place-from : (e : Extent) (layer row col : ℕ) → layer < e.layers → row < height_of e → col < e.cols
    → is_place e layer row col ≡ true
place-from e layer row col deep low wide =
    and_from _ _ (and_from _ _ (lt-ltb layer e.layers deep) (lt-ltb row (height_of e) low)) (lt-ltb col e.cols wide)

-- ---- convolution

-- where a tap in range lies: on a cell of the shape
pub record IsThere (e : Extent) (w : Weights) (o : Cell) (t : Tap) : Type 0 where
  pub held : holds e (cell_under e w o t) ≡ true
  pub layer : layer_of e (cell_under e w o t) ≡ layer_of e o
  pub row : row_in e (cell_under e w o t) + w.rows / 2 ≡ row_in e o + t.row
  pub col : (cell_under e w o t).col + w.cols / 2 ≡ o.col + t.col

pub tap-there : (e : Extent) (w : Weights) (o : Cell) (t : Tap) → is_extent e ≡ true → holds e o ≡ true
    → is_in_range e w o t ≡ true → IsThere e w o t
tap-there e w o t right held inside =
    let outer = and_parts _ (nat_lt (o.col + t.col) (e.cols + w.cols / 2)) inside in
    let middle = and_parts _ (nat_le (w.cols / 2) (o.col + t.col)) outer.0 in
    let inner = and_parts (nat_le (w.rows / 2) (row_in e o + t.row))
    (nat_lt (row_in e o + t.row) (height_of e + w.rows / 2)) middle.0 in
    let top = leb-true (w.rows / 2) (row_in e o + t.row) inner.0 in
    let bottom = ltb-true (row_in e o + t.row) (height_of e + w.rows / 2) inner.1 in
    let left = leb-true (w.cols / 2) (o.col + t.col) middle.1 in
    let far = ltb-true (o.col + t.col) (e.cols + w.cols / 2) outer.1 in
    let here = place-of e o right held in
    let row = (row_in e o + t.row) - w.rows / 2 in
    let col = (o.col + t.col) - w.cols / 2 in
    let place = place-from e (layer_of e o) row col here.0 (omega arith) (omega arith) in
    let there = place-has_cell e (layer_of e o) row col right place in
    record { held = there.0; layer = there.1; row = omega (arith, there.2); col = omega arith }

-- that cell is related
under-agree : (e : Extent) (w : Weights) (o : Cell) (t : Tap) (a b : Grid) → is_extent e ≡ true
    → holds e o ≡ true
    → is_in_range e w o t ≡ true
    → ((test : Tap → Bool) → test t ≡ true → list_any test (taps_of w) ≡ true)
    → AgreeOn e (is_convolved e w o) a b
    → value_at a (cell_under e w o t) ≡ value_at b (cell_under e w o t)
under-agree e w o t a b right held inside member same =
    let x = cell_under e w o t in
    let there = tap-there e w o t right held inside in
    let under : is_under e w o x t ≡ true =
    and_from _ _ (and_from _ _ (eq-eqb (layer_of e x) (layer_of e o) there.layer) (eq-eqb _ _ there.row))
    (eq-eqb _ _ there.col) in
    same x there.held (member (is_under e w o x) under)

convolved-agree : (e : Extent) (w : Weights) (o : Cell) (vs ws : List (Option ℤ)) → is_extent e ≡ true
    → holds e o ≡ true
    → AgreeOn e (is_convolved e w o) (sheet e vs) (sheet e ws)
    → convolved_at w (sheet e vs) o ≡ convolved_at w (sheet e ws) o
convolved-agree e w o vs ws right held same =
    let a = sheet e vs in
    let b = sheet e ws in
    let taps = filter (is_in_range e w o) (taps_of w) in
    let Member : Tap → Type 0 =
    λ t. (test : Tap → Bool) → test t ≡ true → list_any test (taps_of w) ≡ true in
    let members : All Member (taps_of w) =
    λ i d inside test passes. list_any_at test (taps_of w) i d inside passes in
    let kept : All Member taps = All-filter (is_in_range e w o) Member (taps_of w) members in
    let ranged : All (λ t. is_in_range e w o t ≡ true) taps = filter_passes (is_in_range e w o) (taps_of w) in
    let each : All (λ t. term_of a w o t ≡ term_of b w o t) taps =
    λ i d inside.
    ap (option_map (λ v. (get_or taps i d).weight *ℤ v))
    (under-agree e w o (get_or taps i d) a b right held (ranged i d inside) (kept i d inside) same) in
    ap (λ (os : List (Option ℤ)). option_and_then fit (sum_of_all os))
    (map-agree (term_of a w o) (term_of b w o) taps each)

-- ---- clean

hot-agree : (t : ℤ) (a b : Grid) (o : Cell) → value_at a o ≡ value_at b o → is_hot t a o ≡ is_hot t b o
hot-agree t a b o same = ap (is_at_least t) same

-- a cell is in the square round it
in-own_square : (e : Extent) (o : Cell) → is_in_square e o o ≡ true
in-own_square e o =
    let near : (n : ℕ) → is_near n n ≡ true =
    λ n. and_from _ _ (le-leb n (n + 1) (omega arith)) (le-leb n (n + 1) (omega arith)) in
    and_from _ _ (and_from _ _ (eq-eqb (layer_of e o) (layer_of e o) refl) (near o.row)) (near o.col)

-- the cells to which a cell is related by cleaning
abbrev cleaned_round : ℤ → Grid → Cell → Cell → Bool
cleaned_round t g o x = if is_hot t g o then is_in_square g.extent o x else is_same x o

cleaned-own : (t : ℤ) (g : Grid) (o : Cell) → cleaned_round t g o o ≡ true
cleaned-own t g o =
    elim (cases_Bool (is_hot t g o)) [
      | inl hot ↦ rw hot (in-own_square g.extent o)
      | inr cold ↦ rw cold (is_same-refl o)
    ]

cleaned-agree : (e : Extent) (t : ℤ) (o : Cell) (vs ws : List (Option ℤ)) → holds e o ≡ true
    → AgreeOn e (cleaned_round t (sheet e vs) o) (sheet e vs) (sheet e ws)
    → (cleaned_at t (sheet e vs) o ≡ cleaned_at t (sheet e ws) o)
    × ((x : Cell) → cleaned_round t (sheet e vs) o x ≡ cleaned_round t (sheet e ws) o x)
cleaned-agree e t o vs ws held same =
    let a = sheet e vs in
    let b = sheet e ws in
    let own = same o held (cleaned-own t a o) in
    let alike = hot-agree t a b o own in
    let relation : (x : Cell) → cleaned_round t a o x ≡ cleaned_round t b o x =
    λ x. ap (λ (h : Bool). if h then is_in_square e o x else is_same x o) alike in
    elim (cases_Bool (is_hot t a o)) [
      | inl hot ↦
          let square : AgreeOn e (is_in_square e o) a b = λ x there near. same x there (rw hot near) in
          let least : List ℤ → Option ℤ = λ zs. reduce int_min (filter (λ z. not (int_le t z)) zs) in
          (rw (hot, sym alike ∙ hot) (ap least (numbers-agree e (is_in_square e o) a b square)), relation)
      | inr cold ↦ (rw (cold, sym alike ∙ cold) own, relation)
    ]

-- ---- regions

-- the cells to which a cell is related by regions
abbrev connected_or_own : ℤ → Grid → Cell → Cell → Bool
connected_or_own t g o x = if is_high t g o then is_connected t g o x else is_same x o

connected-own : (t : ℤ) (g : Grid) (o : Cell) → holds g.extent o ≡ true → connected_or_own t g o o ≡ true
connected-own t g o held =
    elim (cases_Bool (is_high t g o)) [
      | inl high ↦ rw high (connected-self t g o held high)
      | inr low ↦ rw low (is_same-refl o)
    ]

-- a list that leads on from a connected cell leads on through the values of the other array
leads-agree : (e : Extent) (t : ℤ) (o : Cell) (vs ws : List (Option ℤ))
    → AgreeOn e (is_connected t (sheet e vs) o) (sheet e vs) (sheet e ws)
    → (c : Cell) (cells : List Cell) (x : Cell) → is_connected t (sheet e vs) o c ≡ true
    → Leads t (sheet e vs) c cells x → Leads t (sheet e ws) c cells x
leads-agree e t o vs ws same c [] x inside led =
    (led.0, sym (hot-agree t (sheet e vs) (sheet e ws) c (same c led.0 inside)) ∙ led.1, led.2)
leads-agree e t o vs ws same c (d ∷ cells) x inside led =
    let a = sheet e vs in
    let next : (held : holds e d ≡ true) (high : is_high t a d ≡ true) → is_connected t a o d ≡ true =
    λ held high. component-closed t a o c d inside held high led.2 in
    let first = leads-first t a d cells x led.3 in (
      led.0,
      sym (hot-agree t a (sheet e ws) c (same c led.0 inside)) ∙ led.1,
      led.2,
      leads-agree e t o vs ws same d cells x (next first.0 first.1) led.3,
    )

-- so what was connected is connected
connected-onward : (e : Extent) (t : ℤ) (o x : Cell) (vs ws : List (Option ℤ))
    → AgreeOn e (is_connected t (sheet e vs) o) (sheet e vs) (sheet e ws)
    → is_connected t (sheet e vs) o x ≡ true → is_connected t (sheet e ws) o x ≡ true
connected-onward e t o x vs ws same inside =
    let led = connected-led t (sheet e vs) o x inside in
    let first = leads-first t (sheet e vs) o led.0 x led.1 in
    let own = connected-self t (sheet e vs) o first.0 first.1 in
    led-connected t (sheet e ws) o led.0 x (leads-agree e t o vs ws same o led.0 x own led.1)

regions-agree : (e : Extent) (t : ℤ) (o : Cell) (vs ws : List (Option ℤ)) → holds e o ≡ true
    → AgreeOn e (connected_or_own t (sheet e vs) o) (sheet e vs) (sheet e ws)
    → AgreeOn e (connected_or_own t (sheet e ws) o) (sheet e vs) (sheet e ws)
    → (labelled_at t (sheet e vs) o ≡ labelled_at t (sheet e ws) o)
    × ((x : Cell) → connected_or_own t (sheet e vs) o x ≡ connected_or_own t (sheet e ws) o x)
regions-agree e t o vs ws held same also =
    let a = sheet e vs in
    let b = sheet e ws in
    let own = same o held (connected-own t a o held) in
    let alike : is_high t a o ≡ is_high t b o = hot-agree t a b o own in
    elim (cases_Bool (is_high t a o)) [
      | inl high ↦
          let high_b : is_high t b o ≡ true = sym alike ∙ high in
          let there : AgreeOn e (is_connected t a o) a b = λ x inside joined. same x inside (rw high joined) in
          let back : AgreeOn e (is_connected t b o) b a =
          λ x inside joined. sym (also x inside (rw high_b joined)) in
          let one : (x : Cell) → is_connected t a o x ≡ is_connected t b o x =
          λ x.
          same_truth (is_connected t a o x) (is_connected t b o x) (connected-onward e t o x vs ws there)
          (connected-onward e t o x ws vs back) in
          let component : component_of t a o ≡ component_of t b o =
          component-made t a o
          ∙ cells_where-ext e (is_connected t a o) (is_connected t b o) (λ x inside. one x)
          ∙ sym (component-made t b o) in
          (ap (λ (z : Cells). Some (label_of z.indexes)) component, λ x. rw (high, high_b) (one x))
      | inr low ↦
          let low_b : is_high t b o ≡ false = sym alike ∙ low in
          (label-low t a o low ∙ sym (label-low t b o low_b), λ x. rw (low, low_b) refl)
    ]

-- ---- operator by operator

-- what is known of an operator, its shapes, its old and its new inputs, and a cell of its output
record Known (op : Op) (ins : List Extent) (out : Extent) (old new : List Grid) (o : Cell) : Type 0 where
  few : length ins ≡ arity op
  told : shape_of op ins ≡ Ok out
  right : AreExtents ins
  right_out : is_extent out ≡ true
  held : holds out o ≡ true
  shapes_old : extents_of old ≡ ins
  shapes_new : extents_of new ≡ ins
  old_extent : (i : ℕ) → (input_at old i).extent ≡ extent_at ins i
  new_extent : (i : ℕ) → (input_at new i).extent ≡ extent_at ins i
  agree : (i : ℕ) (x : Cell) → i < length ins → holds (extent_at ins i) x ≡ true
      → related op old i o x ≡ true → value_at (input_at old i) x ≡ value_at (input_at new i) x
  also : is_regions op ≡ true → (i : ℕ) (x : Cell) → i < length ins → holds (extent_at ins i) x ≡ true
      → related op new i o x ≡ true → value_at (input_at old i) x ≡ value_at (input_at new i) x

-- the value is one, and so is the relation
abbrev IsOne : Op → Extent → List Grid → List Grid → Cell → Type 0
IsOne op out old new o = (value_in out op old o ≡ value_in out op new o)
    × ((i : ℕ) (x : Cell) → related op old i o x ≡ related op new i o x)

-- of an operator with a mapping the relation is that of the shapes
mapping-same : (op : Op) (ins : List Extent) (out : Extent) (old new : List Grid) (o : Cell)
    → Known op ins out old new o
    → has_mapping op ≡ true → (i : ℕ) (x : Cell) → related op old i o x ≡ related op new i o x
mapping-same op ins out old new o known h i x =
    related-mapped op old i o x h
    ∙ ap (λ (es : List Extent). mapped op es i o x) (known.shapes_old ∙ sym known.shapes_new)
    ∙ sym (related-mapped op new i o x h)

-- so the inputs agree where the mapping leads
mapping-agree : (op : Op) (ins : List Extent) (out : Extent) (old new : List Grid) (o : Cell)
    → Known op ins out old new o
    → has_mapping op ≡ true → (i : ℕ) → i < length ins
    → AgreeOn (extent_at ins i) (mapped_between (extent_at ins 0) out op i o) (input_at old i) (input_at new i)
mapping-agree op ins out old new o known h i inside x held passes =
    let given : output_extent op ins ≡ out = ap (λ r. result_unwrap_or r no_extent) known.told in
    let there : mapped op ins i o x ≡ true =
    ap (λ (e : Extent). mapped_between (extent_at ins 0) e op i o x) given ∙ passes in
    known.agree i x inside held
    (related-mapped op old i o x h ∙ ap (λ (es : List Extent). mapped op es i o x) known.shapes_old ∙ there)

-- arrays that agree do so as arrays of a shape that is theirs
sheets-agree : (e : Extent) (test : Cell → Bool) (a b : Grid) → a.extent ≡ e → b.extent ≡ e
    → AgreeOn e test a b
    → AgreeOn e test (sheet e a.values) (sheet e b.values)
sheets-agree e test a b first second same x held passes =
    sym (ap (λ (g : Grid). value_at g x) (as-sheet a e first))
    ∙ same x held passes
    ∙ ap (λ (g : Grid). value_at g x) (as-sheet b e second)

-- of an operator of one input that reads the same cell
own-agree : (op : Op) (ins : List Extent) (out : Extent) (old new : List Grid) (o : Cell)
    → Known op ins out old new o
    → has_mapping op ≡ true → (i : ℕ) → i < length ins → extent_at ins i ≡ out
    → mapped_between (extent_at ins 0) out op i o o ≡ true
    → value_at (input_at old i) o ≡ value_at (input_at new i) o
own-agree op ins out old new o known h i inside same passes =
    mapping-agree op ins out old new o known h i inside o
    (ap (λ (e : Extent). holds e o) same ∙ known.held) passes

-- of an operator that folds the cells to which a cell is mapped
folded-agree : (op : Op) (ins : List Extent) (out : Extent) (old new : List Grid) (o : Cell)
    → Known op ins out old new o
    → has_mapping op ≡ true → 0 < length ins → mapped_numbers op old o ≡ mapped_numbers op new o
folded-agree op ins out old new o known h inside =
    let e = extent_at ins 0 in
    let a = input_at old 0 in
    let b = input_at new 0 in
    let given : output_extent op ins ≡ out = ap (λ r. result_unwrap_or r no_extent) known.told in
    let same : AgreeOn e (mapped op ins 0 o) a b =
    λ x held passes.
    mapping-agree op ins out old new o known h 0 inside x held
    (sym (ap (λ (d : Extent). mapped_between e d op 0 o x) given) ∙ passes) in
    ap₂ (λ (d : Extent) (es : List Extent). numbers_at a (cells_where d (mapped op es 0 o)))
    (known.old_extent 0) known.shapes_old
    ∙ numbers-agree e (mapped op ins 0 o) a b same
    ∙ sym (ap₂ (λ (d : Extent) (es : List Extent). numbers_at b (cells_where d (mapped op es 0 o)))
    (known.new_extent 0) known.shapes_new)

-- of an operator that reads one cell of the layer
placed-agree : (op : Op) (ins : List Extent) (out : Extent) (old new : List Grid) (o : Cell) (row col : ℕ)
    → Known op ins out old new o → has_mapping op ≡ true → 0 < length ins
    → is_place (extent_at ins 0) (layer_of out o) row col ≡ true
    → mapped_between (extent_at ins 0) out op 0 o (cell_in (extent_at ins 0) (layer_of out o) row col) ≡ true
    → in_layer_of out o (input_at old 0) row col ≡ in_layer_of out o (input_at new 0) row col
placed-agree op ins out old new o row col known h inside place passes =
    let e = extent_at ins 0 in
    let a = input_at old 0 in
    let b = input_at new 0 in
    let right = extent-right ins 0 known.right inside in
    ap (λ (d : Extent). value_at a (cell_in d (layer_of out o) row col)) (known.old_extent 0)
    ∙ in-layer_agree e (layer_of out o) row col a b (mapped_between e out op 0 o) right place passes
    (mapping-agree op ins out old new o known h 0 inside)
    ∙ sym (ap (λ (d : Extent). value_at b (cell_in d (layer_of out o) row col)) (known.new_extent 0))

-- transpose
turned-agree : (ins : List Extent) (out : Extent) (old new : List Grid) (o : Cell)
    → Known Transpose ins out old new o
    → value_in out Transpose old o ≡ value_in out Transpose new o
turned-agree ins out old new o known =
    let inside : 0 < length ins = omega (arith, known.few) in
    let e = extent_at ins 0 in
    let right = extent-right ins 0 known.right inside in
    let s = sides e right in
    let shape : layered e.layers e.cols (height_of e) ≡ out = let told = known.told in cc in
    let here = place-of out o known.right_out known.held in
    let within = row-held out o known.held in
    let layers : e.layers ≡ out.layers = ap (λ (d : Extent). d.layers) shape in
    let wide : height_of e ≡ out.cols = ap (λ (d : Extent). d.cols) shape in
    let high : height_of out ≡ e.cols = ap height_of (sym shape)
    ∙ height-layered e.layers e.cols (height_of e) s.0 in
    let place = place-from e (layer_of out o) o.col (row_in out o) (omega (arith, here.0)) (omega (arith, within.1))
    (omega (arith, here.1)) in
    let x = cell_in e (layer_of out o) o.col (row_in out o) in
    let there = place-has_cell e (layer_of out o) o.col (row_in out o) right place in
    let passes : mapped_between e out Transpose 0 o x ≡ true =
    and_from _ _ (and_from _ _ (eq-eqb (layer_of e x) (layer_of out o) there.1) (eq-eqb (row_in e x) o.col there.2))
    (eq-eqb (row_in out o) (row_in out o) refl) in
    placed-agree Transpose ins out old new o o.col (row_in out o) known refl inside place passes

-- slice
sliced-agree : (r0 c0 h w : ℕ) (ins : List Extent) (out : Extent) (old new : List Grid) (o : Cell)
    → Known (Slice r0 c0 h w) ins out old new o
    → value_in out (Slice r0 c0 h w) old o ≡ value_in out (Slice r0 c0 h w) new o
sliced-agree r0 c0 h w ins out old new o known =
    let inside : 0 < length ins = omega (arith, known.few) in
    let e = extent_at ins 0 in
    let right = extent-right ins 0 known.right inside in
    let s = sides e right in
    let bounds = sliced-within e r0 c0 h w out known.told in
    let here = place-of out o known.right_out known.held in
    let within = row-held out o known.held in
    let layers : e.layers ≡ out.layers = ap (λ (d : Extent). d.layers) bounds.2 in
    let wide : w ≡ out.cols = ap (λ (d : Extent). d.cols) bounds.2 in
    let high : height_of out ≡ h = ap height_of (sym bounds.2) ∙ height-layered e.layers h w s.0 in
    let row = r0 + row_in out o in
    let col = c0 + o.col in
    let place = place-from e (layer_of out o) row col (omega (arith, here.0)) (omega (arith, here.1, bounds.0))
    (omega (arith, within.1, bounds.1)) in
    let x = cell_in e (layer_of out o) row col in
    let there = place-has_cell e (layer_of out o) row col right place in
    let passes : mapped_between e out (Slice r0 c0 h w) 0 o x ≡ true =
    and_from _ _ (and_from _ _ (eq-eqb (layer_of e x) (layer_of out o) there.1) (eq-eqb (row_in e x) row there.2))
    (eq-eqb col col refl) in
    placed-agree (Slice r0 c0 h w) ins out old new o row col known refl inside place passes

-- convolution
weighed-agree : (kernel : Weights) (ins : List Extent) (out : Extent) (old new : List Grid) (o : Cell)
    → Known (Convolve kernel) ins out old new o
    → value_in out (Convolve kernel) old o ≡ value_in out (Convolve kernel) new o
weighed-agree kernel ins out old new o known =
    let inside : 0 < length ins = omega (arith, known.few) in
    let e = extent_at ins 0 in
    let a = input_at old 0 in
    let b = input_at new 0 in
    let right = extent-right ins 0 known.right inside in
    let shape : e ≡ out = let told = known.told in cc in
    let held : holds e o ≡ true = ap (λ (d : Extent). holds d o) shape ∙ known.held in
    let same : AgreeOn e (is_convolved e kernel o) a b =
    λ x there passes. mapping-agree (Convolve kernel) ins out old new o known refl 0 inside x there passes in
    ap (λ (g : Grid). convolved_at kernel g o) (as-sheet a e (known.old_extent 0))
    ∙ convolved-agree e kernel o a.values b.values right held
    (sheets-agree e (is_convolved e kernel o) a b (known.old_extent 0) (known.new_extent 0) same)
    ∙ sym (ap (λ (g : Grid). convolved_at kernel g o) (as-sheet b e (known.new_extent 0)))

-- lookup: the match is one, and so is the table's value there
matched-agree : (table other : Grid) (m : Option ℕ)
    → ((k : ℕ) → m ≡ Some k → value_at table (entry_at k) ≡ value_at other (entry_at k))
    → option_and_then (λ k. value_at table (entry_at k)) m
    ≡ option_and_then (λ k. value_at other (entry_at k)) m
matched-agree table other None same = refl
matched-agree table other (Some k) same = same k refl

found-agree : (ins : List Extent) (out : Extent) (old new : List Grid) (o : Cell) → Known Lookup ins out old new o
    → IsOne Lookup out old new o
found-agree ins out old new o known =
    let a = input_at old 0 in
    let b = input_at new 0 in
    let table = input_at old 1 in
    let other = input_at new 1 in
    let shape = looked-up_shape ins out known.told in
    let held : holds (extent_at ins 0) o ≡ true = ap (λ (d : Extent). holds d o) shape.1 ∙ known.held in
    let own : value_at a o ≡ value_at b o =
    known.agree 0 o (omega (arith, known.few)) held
    (or_left (is_same o o) false (is_same-refl o)) in
    let cols : table.extent.cols ≡ other.extent.cols =
    ap (λ (d : Extent). d.cols) (known.old_extent 1 ∙ sym (known.new_extent 1)) in
    let one : match_of a table o ≡ match_of b other o =
    ap₂ (λ (n : ℕ) (v : Option ℤ). option_and_then (column_of n) v) cols own in
    let entry : (k : ℕ) → match_of a table o ≡ Some k
    → value_at table (entry_at k) ≡ value_at other (entry_at k) =
    λ k told.
    let below = match-below a table o k told in
    let wide : table.extent.cols ≡ (extent_at ins 1).cols = ap (λ (d : Extent). d.cols) (known.old_extent 1) in
    let inside : holds (extent_at ins 1) (entry_at k) ≡ true =
    and_from _ _ (lt-ltb 0 (extent_at ins 1).rows (omega (arith, shape.0)))
    (lt-ltb k (extent_at ins 1).cols (omega (arith, below))) in
    let passes : is_entry (match_of a table o) (entry_at k) ≡ true =
    ap (λ (m : Option ℕ). is_entry m (entry_at k)) told ∙ eq-eqb k k refl in
    known.agree 1 (entry_at k) (omega (arith, known.few)) inside passes in (
      matched-agree table other (match_of a table o) entry
          ∙ ap (option_and_then (λ k. value_at other (entry_at k))) one,
      λ i x. ap (λ (m : Option ℕ). ((i == 0) && is_same x o) || ((i == 1) && is_entry m x)) one,
    )

-- what holds of the values of two arrays as arrays of their shape holds of them
over-sheets : (P : Grid → Grid → Type 0) (e : Extent) (a b : Grid) → a.extent ≡ e → b.extent ≡ e
    → P (sheet e a.values) (sheet e b.values) → P a b
over-sheets P e a b first second known =
    subst (λ (g : Grid). P a g) (sym (as-sheet b e second))
    (subst (λ (g : Grid). P g (sheet e b.values)) (sym (as-sheet a e first)) known)

-- an input of the output's shape holds the cell
own-held : (ins : List Extent) (out : Extent) (o : Cell)
    → (let r : Result Extent ShapeFault = Ok (extent_at ins 0) in r ≡ Ok out) → holds out o ≡ true
    → holds (extent_at ins 0) o ≡ true
own-held ins out o told held =
    let shape : extent_at ins 0 ≡ out = cc in ap (λ (d : Extent). holds d o) shape ∙ held

-- regions
labelled-agree : (t : ℤ) (ins : List Extent) (out : Extent) (old new : List Grid) (o : Cell)
    → Known (Regions t) ins out old new o → IsOne (Regions t) out old new o
labelled-agree t ins out old new o known =
    let inside : 0 < length ins = omega (arith, known.few) in
    let e = extent_at ins 0 in
    let both = over-sheets (λ g h. AgreeOn e (connected_or_own t g o) g h → AgreeOn e (connected_or_own t h o) g h
    → (labelled_at t g o ≡ labelled_at t h o)
    × ((x : Cell) → connected_or_own t g o x ≡ connected_or_own t h o x))
    e (input_at old 0) (input_at new 0) (known.old_extent 0) (known.new_extent 0)
    (regions-agree e t o (input_at old 0).values (input_at new 0).values (own-held ins out o known.told known.held))
    (λ x. known.agree 0 x inside) (λ x. known.also refl 0 x inside) in
    (both.0, λ i x. ap (λ (c : Bool). (i == 0) && c) (both.1 x))

-- clean
tidied-agree : (t : ℤ) (ins : List Extent) (out : Extent) (old new : List Grid) (o : Cell)
    → Known (Clean t) ins out old new o → IsOne (Clean t) out old new o
tidied-agree t ins out old new o known =
    let e = extent_at ins 0 in
    let both = over-sheets (λ g h. AgreeOn e (cleaned_round t g o) g h
    → (cleaned_at t g o ≡ cleaned_at t h o)
    × ((x : Cell) → cleaned_round t g o x ≡ cleaned_round t h o x))
    e (input_at old 0) (input_at new 0) (known.old_extent 0) (known.new_extent 0)
    (cleaned-agree e t o (input_at old 0).values (input_at new 0).values (own-held ins out o known.told known.held))
    (λ x. known.agree 0 x (omega (arith, known.few))) in
    (both.0, λ i x. ap (λ (c : Bool). (i == 0) && c) (both.1 x))

-- an operator of one input of its own shape
one-agree : (op : Op) (ins : List Extent) (out : Extent) (old new : List Grid) (o : Cell)
    → Known op ins out old new o
    → has_mapping op ≡ true → arity op ≡ 1
    → (let r : Result Extent ShapeFault = Ok (extent_at ins 0) in r ≡ shape_of op ins)
    → mapped_between (extent_at ins 0) out op 0 o o ≡ true
    → value_at (input_at old 0) o ≡ value_at (input_at new 0) o
one-agree op ins out old new o known h one shape passes =
    let told = known.told in
    let same : extent_at ins 0 ≡ out = cc in
    own-agree op ins out old new o known h 0 (omega (arith, known.few)) same passes

-- an operator of two inputs of one shape
two-agree : (op : Op) (f : ℤ → ℤ → Option ℤ) (ins : List Extent) (out : Extent) (old new : List Grid)
    (o : Cell)
    → Known op ins out old new o → has_mapping op ≡ true → arity op ≡ 2
    → same_shape ins ≡ shape_of op ins
    → mapped_between (extent_at ins 0) out op 0 o o ≡ true → mapped_between (extent_at ins 0) out op 1 o o
    ≡ true
    → of_two f old o ≡ of_two f new o
two-agree op f ins out old new o known h two shape passes also =
    let told = shape ∙ known.told in
    ap₂ (with_numbers f)
    (own-agree op ins out old new o known h 0 (omega (arith, known.few)) (same-shape_first ins out told) passes)
    (own-agree op ins out old new o known h 1 (omega (arith, known.few)) (same-shape_second ins out told) also)

depends-of : (op : Op) (ins : List Extent) (out : Extent) (old new : List Grid) (o : Cell)
    → Known op ins out old new o
    → IsOne op out old new o
depends-of Neg ins out old new o known = (
  ap (with_number (λ z. fit (neg_ℤ z)))
      (one-agree Neg ins out old new o known refl refl refl (is_same-refl o)),
  mapping-same Neg ins out old new o known refl,
)
depends-of Abs ins out old new o known = (
  ap (with_number absolute) (one-agree Abs ins out old new o known refl refl refl (is_same-refl o)),
  mapping-same Abs ins out old new o known refl,
)
depends-of (AddK k) ins out old new o known = (
  ap (with_number (λ z. fit (z +ℤ k)))
      (one-agree (AddK k) ins out old new o known refl refl refl (is_same-refl o)),
  mapping-same (AddK k) ins out old new o known refl,
)
depends-of (MulK k) ins out old new o known = (
  ap (with_number (λ z. fit (z *ℤ k)))
      (one-agree (MulK k) ins out old new o known refl refl refl (is_same-refl o)),
  mapping-same (MulK k) ins out old new o known refl,
)
depends-of (Clip lo hi) ins out old new o known = (
  ap (with_number (clipped lo hi))
      (one-agree (Clip lo hi) ins out old new o known refl refl refl (is_same-refl o)),
  mapping-same (Clip lo hi) ins out old new o known refl,
)
depends-of Add ins out old new o known = (
  two-agree Add (λ a b. fit (a +ℤ b)) ins out old new o known refl refl refl (is_same-refl o)
      (is_same-refl o),
  mapping-same Add ins out old new o known refl,
)
depends-of Sub ins out old new o known = (
  two-agree Sub (λ a b. fit (a -ℤ b)) ins out old new o known refl refl refl (is_same-refl o)
      (is_same-refl o),
  mapping-same Sub ins out old new o known refl,
)
depends-of Mul ins out old new o known = (
  two-agree Mul (λ a b. fit (a *ℤ b)) ins out old new o known refl refl refl (is_same-refl o)
      (is_same-refl o),
  mapping-same Mul ins out old new o known refl,
)
depends-of Min ins out old new o known = (
  two-agree Min (λ a b. Some (int_min a b)) ins out old new o known refl refl refl (is_same-refl o)
      (is_same-refl o),
  mapping-same Min ins out old new o known refl,
)
depends-of Max ins out old new o known = (
  two-agree Max (λ a b. Some (int_max a b)) ins out old new o known refl refl refl (is_same-refl o)
      (is_same-refl o),
  mapping-same Max ins out old new o known refl,
)
depends-of Transpose ins out old new o known =
    (turned-agree ins out old new o known, mapping-same Transpose ins out old new o known refl)
depends-of (Slice r0 c0 height width) ins out old new o known = (
  sliced-agree r0 c0 height width ins out old new o known,
  mapping-same (Slice r0 c0 height width) ins out old new o known refl,
)
depends-of (Convolve kernel) ins out old new o known =
    (weighed-agree kernel ins out old new o known, mapping-same (Convolve kernel) ins out old new o known refl)
depends-of (Block fold height width) ins out old new o known = (
  ap (fold_of fold)
      (folded-agree (Block fold height width) ins out old new o known refl (omega (arith, known.few))),
  mapping-same (Block fold height width) ins out old new o known refl,
)
depends-of Lookup ins out old new o known = found-agree ins out old new o known
depends-of (Regions t) ins out old new o known = labelled-agree t ins out old new o known
depends-of (Clean t) ins out old new o known = tidied-agree t ins out old new o known
depends-of (FoldLayers fold) ins out old new o known = (
  ap (fold_of fold) (folded-agree (FoldLayers fold) ins out old new o known refl (omega (arith, known.few))),
  mapping-same (FoldLayers fold) ins out old new o known refl,
)

-- ---- the laws

-- o reads the cells to which it is related by the old inputs, and of regions by the new ones
abbrev reads : Op → List Grid → List Grid → Cell → ℕ → Cell → Bool
reads op old new o i x = related op old i o x || (is_regions op && related op new i o x)

-- what is known of a site
known-of : (s : Site) (old new : List Grid) (o : Cell) → IsAtWork s old → IsAtWork s new
    → holds s.out o ≡ true
    → AgreeWhere s (reads s.op old new o) old new → Known s.op s.ins s.out old new o
known-of s old new o first second held same = record {
  few = first.site.arity;
  told = first.site.shape;
  right = first.right;
  right_out = output-right s first.site first.right;
  held = held;
  shapes_old = first.shapes;
  shapes_new = second.shapes;
  old_extent = λ i. extent-of_site s old i first;
  new_extent = λ i. extent-of_site s new i second;
  agree = λ i x inside there passes.
      same i x inside there
      (or_left (related s.op old i o x) (is_regions s.op && related s.op new i o x) passes);
  also = λ regions i x inside there passes.
      same i x inside there
      (or_right (related s.op old i o x) (is_regions s.op && related s.op new i o x)
      (and_from (is_regions s.op) (related s.op new i o x) regions passes));
}

-- the shape of the output over the inputs of a site
out-of_site : (s : Site) (inputs : List Grid) → IsAtWork s inputs → output_extent s.op (extents_of inputs)
    ≡ s.out
out-of_site s inputs known =
    ap (λ (es : List Extent). output_extent s.op es) known.shapes
    ∙ ap (λ r. result_unwrap_or r no_extent) known.site.shape

-- the value of a cell depends on the cells that it reads alone
value-reads : (s : Site) (old new : List Grid) (o : Cell) → IsAtWork s old → IsAtWork s new → holds s.out o ≡ true
    → AgreeWhere s (reads s.op old new o) old new → value_of s.op old o ≡ value_of s.op new o
value-reads s old new o first second held same =
    let one = depends-of s.op s.ins s.out old new o (known-of s old new o first second held same) in
    ap (λ (e : Extent). value_in e s.op old o) (out-of_site s old first)
    ∙ one.0
    ∙ sym (ap (λ (e : Extent). value_in e s.op new o) (out-of_site s new second))

-- and so do the cells to which it is related
relation-reads : (s : Site) (old new : List Grid) (i : ℕ) (o x : Cell) → IsAtWork s old → IsAtWork s new
    → holds s.out o ≡ true
    → AgreeWhere s (reads s.op old new o) old new → related s.op old i o x ≡ related s.op new i o x
relation-reads s old new i o x first second held same =
    (depends-of s.op s.ins s.out old new o (known-of s old new o first second held same)).1 i x

-- it reads no others than the old ones, but for regions
reads-old : (s : Site) (old new : List Grid) (o : Cell) → is_regions s.op ≡ false
    → AgreeWhere s (λ i x. related s.op old i o x) old new → AgreeWhere s (reads s.op old new o) old new
reads-old s old new o other same i x inside there passes =
    same i x inside there (only (related s.op old i o x) (related s.op new i o x) (rw other at passes)) where
      only : (a b : Bool) → (a || (false && b)) ≡ true → a ≡ true
      only true b h = refl
      only false b h = h

-- and none than the old and the new ones
reads-either : (s : Site) (old new : List Grid) (o : Cell)
    → AgreeWhere s (λ i x. related s.op old i o x || related s.op new i o x) old new
    → AgreeWhere s (reads s.op old new o) old new
reads-either s old new o same i x inside there passes =
    same i x inside there (wider (related s.op old i o x) (is_regions s.op) (related s.op new i o x) passes) where
      wider : (a r b : Bool) → (a || (r && b)) ≡ true → (a || b) ≡ true
      wider true r b h = refl
      wider false true b h = h
      wider false false b h = (cc)

-- the laws of the old relation
pub value-depends : ValuesDependOnRelatedCells
value-depends s old new o first second held other same =
    value-reads s old new o first second held (reads-old s old new o other same)

pub relation-depends : RelationsDependOnRelatedCells
relation-depends s old new i o x first second held other same =
    relation-reads s old new i o x first second held (reads-old s old new o other same)

-- the laws of both relations
pub value-depends_either : ValuesDependOnEitherRelation
value-depends_either s old new o first second held same =
    value-reads s old new o first second held (reads-either s old new o same)

pub relation-depends_either : RelationsDependOnEitherRelation
relation-depends_either s old new i o x first second held same =
    relation-reads s old new i o x first second held (reads-either s old new o same)
