-- What follows of operators that work cell by cell.
--
-- The key idea: by the shape rules the inputs and the output have one shape, so a cell of the one is a cell of the
-- others,
-- and each output cell is related to the cell at its own place alone.
use Rattle.std.proofs.Common.{◌≡◌, ℕ, ◌<◌, Bool, true, true≢false, ◌&&◌}
use Rattle.std.proofs.Common.{◌==◌, List, [], ◌∷◌, length, map, get_or, Option, Some}
use Rattle.std.proofs.Common.{refl, sym, ap, ◌∙◌, arith, inl, inr, eq-eqb, lt-ltb, eqb-true}
use Rattle.std.specs.Prelude.{Result, Ok, unwrap_or}
use Rattle.std.specs.List.{list_any}
use Rattle.std.proofs.Math.Bool.{or-false}
use Rattle.std.specs.Option.{option_map}
use Rattle.std.proofs.lemmas.List.{length-map}
use Rattle.std.specs.Result.{result_unwrap_or}
use Rattle.std.proofs.lemmas.Bool.{cases_Bool}
use Rattle.std.proofs.lemmas.Bool.Decides.{nat_tests}
use Rattle.std.proofs.lemmas.Option.{slice_get-map, slice_get-get_or}
use Rattle.sz_cells.specs.declared.Cell.{Cell}
use Rattle.sz_cells.specs.Extent.{Extent, holds}
use Rattle.sz_cells.specs.Cells.{Cells, is_same, cells_where, any_cell, has, named_in}
use Rattle.sz_cells.proofs.Sets.{has-cells_where, cells_where-ext, any_cell-ext}
use Rattle.sz_cells.proofs.Sets.{any_cell-same_turned, is_same-flip}
use Rattle.sz_spec.specs.declared.modes.Dir.{Dir}
use Rattle.sz_spec.specs.declared.modes.Dir.TheVariants.{Back, Forward}
use Rattle.sz_spec.specs.declared.op.Op.{Op}
use Rattle.sz_spec.specs.declared.op.Op.TheVariants.{Neg, Abs, AddK, MulK, Clip, Add, Sub, Mul, Min}
use Rattle.sz_spec.specs.declared.op.Op.TheVariants.{Max, Lookup, Regions, Clean}
use Rattle.sz_spec.specs.declared.shapes.ShapeFault.{ShapeFault}
use Rattle.sz_spec.specs.Values.{Grid, no_grid, no_extent, extent_at, input_at}
use Rattle.sz_spec.specs.Shapes.{Site, IsSite, arity, same_shape, shape_of}
use Rattle.sz_spec.specs.Lineage.{mapped, related}
use Rattle.sz_spec.specs.Modes.{has_mapping}
use Rattle.sz_spec.proofs.OutputShapes.{same-shape_first, same-shape_second}
use Rattle.sz_spec.specs.Work.{IsAtWork}
use Rattle.sz_spec.specs.Sides.{near_side, far_side, image_in}
use Rattle.sz_frame.proofs.Inputs as at_work
use Rattle.sz_ops_local.specs.Local.{is_elementwise, is_local}

-- ---- shapes

-- one input, or one of two
of-one : (ins : List Extent) (out : Extent) (i : ℕ) → i < 1 → shape_of Neg ins ≡ Ok out → extent_at ins i
    ≡ out
of-one ins out i few rule =
    let first : i ≡ 0 = omega arith in
    ap (extent_at ins) first ∙ ap (λ (r : Result Extent ShapeFault). result_unwrap_or r no_extent) rule

of-two : (ins : List Extent) (out : Extent) (i : ℕ) → i < 2 → same_shape ins ≡ Ok out → extent_at ins i ≡
    out
of-two ins out i few rule =
    elim (cases_Bool (i == 0)) [
      | inl zero ↦ ap (extent_at ins) (eqb-true i 0 zero) ∙ same-shape_first ins out rule
      | inr other ↦
          let second : i ≡ 1 = grind (arith, nat_tests) in
          ap (extent_at ins) second ∙ same-shape_second ins out rule
    ]

-- each input has the output's shape
pub same-shapes : (op : Op) (ins : List Extent) (out : Extent) (i : ℕ) → is_elementwise op ≡ true → i < arity op
    → shape_of op ins ≡ Ok out → extent_at ins i ≡ out
same-shapes Neg ins out i h few rule = of-one ins out i few rule
same-shapes Abs ins out i h few rule = of-one ins out i few rule
same-shapes (AddK k) ins out i h few rule = of-one ins out i few rule
same-shapes (MulK k) ins out i h few rule = of-one ins out i few rule
same-shapes (Clip lo hi) ins out i h few rule = of-one ins out i few rule
same-shapes Add ins out i h few rule = of-two ins out i few rule
same-shapes Sub ins out i h few rule = of-two ins out i few rule
same-shapes Mul ins out i h few rule = of-two ins out i few rule
same-shapes Min ins out i h few rule = of-two ins out i few rule
same-shapes Max ins out i h few rule = of-two ins out i few rule
same-shapes _ ins out i h few rule = absurd (true≢false (sym h))

-- ---- lineage

-- a cell is mapped to the cell at its own place
pub mapped-same : (op : Op) (ins : List Extent) (i : ℕ) (o x : Cell) → is_elementwise op ≡ true → i < arity op
    → mapped op ins i o x ≡ is_same x o
mapped-same Neg ins i o x h few = ap (λ b. b && is_same x o) (eq-eqb i 0 (omega arith))
mapped-same Abs ins i o x h few = ap (λ b. b && is_same x o) (eq-eqb i 0 (omega arith))
mapped-same (AddK k) ins i o x h few = ap (λ b. b && is_same x o) (eq-eqb i 0 (omega arith))
mapped-same (MulK k) ins i o x h few = ap (λ b. b && is_same x o) (eq-eqb i 0 (omega arith))
mapped-same (Clip lo hi) ins i o x h few = ap (λ b. b && is_same x o) (eq-eqb i 0 (omega arith))
mapped-same Add ins i o x h few = ap (λ b. b && is_same x o) (lt-ltb i 2 few)
mapped-same Sub ins i o x h few = ap (λ b. b && is_same x o) (lt-ltb i 2 few)
mapped-same Mul ins i o x h few = ap (λ b. b && is_same x o) (lt-ltb i 2 few)
mapped-same Min ins i o x h few = ap (λ b. b && is_same x o) (lt-ltb i 2 few)
mapped-same Max ins i o x h few = ap (λ b. b && is_same x o) (lt-ltb i 2 few)
mapped-same _ ins i o x h few = absurd (true≢false (sym h))

-- at a site
pub same-at : (s : Site) (i : ℕ) → is_elementwise s.op ≡ true → IsSite s → i < length s.ins → extent_at s.ins i ≡ s.out
same-at s i h site few = same-shapes s.op s.ins s.out i h (omega (arith, few, site.arity)) site.shape

pub mapped-at : (s : Site) (i : ℕ) (o x : Cell) → is_elementwise s.op ≡ true → IsSite s → i < length s.ins
    → mapped s.op s.ins i o x ≡ is_same x o
mapped-at s i o x h site few = mapped-same s.op s.ins i o x h (omega (arith, few, site.arity))

-- some cell of a set is at the place of a cell exactly where the cell is in the set
pub any-at_place : (e : Extent) (from : Cells) (q : Cell → Bool) (o : Cell) → from ≡ cells_where e (has from)
    → holds e o ≡ true
    → ((x : Cell) → q x ≡ is_same x o) → any_cell q from ≡ has from o
any-at_place e from q o own held same =
    ap (any_cell q) own ∙ any_cell-ext e (has from) q (λ x. is_same x o) (λ x inside passes. same x)
    ∙ any_cell-same_turned e (has from) o held

-- the image of a set is the set of the cells at the same places
pub image-same : (dir : Dir) (s : Site) (i : ℕ) (from : Cells) (x : Cell) → is_elementwise s.op ≡ true → IsSite s
    → i < length s.ins
    → from ≡ cells_where (near_side dir s i) (has from) → holds (far_side dir s i) x ≡ true
    → has from x ≡ has (image_in dir s i (mapped s.op s.ins i) from) x
image-same Back s i from x h site few own held =
    let near : holds s.out x ≡ true = rw (← same-at s i h site few) held in
    sym
    (has-cells_where (extent_at s.ins i) (λ y. any_cell (λ o. mapped s.op s.ins i o y) from) x held
    ∙ any-at_place s.out from (λ o. mapped s.op s.ins i o x) x own near (λ o. mapped-at s i o x h site few
    ∙ is_same-flip x o))
image-same Forward s i from x h site few own held =
    let near : holds (extent_at s.ins i) x ≡ true = rw (same-at s i h site few) held in
    sym
    (has-cells_where s.out (λ o. any_cell (λ c. mapped s.op s.ins i o c) from) x held
    ∙ any-at_place (extent_at s.ins i) from (λ c. mapped s.op s.ins i x c) x own near
    (λ c. mapped-at s i x c h site few))

-- the two sides of a step have one shape
pub same-sides : (dir : Dir) (s : Site) (i : ℕ) → ((j : ℕ) → j < length s.ins → extent_at s.ins j ≡
    s.out) → i < length s.ins
    → near_side dir s i ≡ far_side dir s i
same-sides Back s i same few = sym (same i few)
same-sides Forward s i same few = same i few

-- ---- values

-- how many inputs there are
pub inputs-count : (s : Site) (inputs : List Grid) → IsAtWork s inputs → length inputs ≡ arity s.op
inputs-count s inputs work =
    sym (length-map inputs (λ (g : Grid). g.extent)) ∙ ap (λ (es : List Extent). length es) work.shapes ∙
    work.site.arity

-- the input at a place of a list of shared arrays
pub input-is : {A : Type 0} (view : A → Grid) (xs : List A) (i : ℕ) (x : A) → i < length xs → x ≡ get_or xs
    i x
    → input_at (map view xs) i ≡ view x
input-is view xs i x inside is =
    ap (λ (o : Option Grid). unwrap_or o no_grid)
    (slice_get-map view xs i ∙ ap (option_map view) (slice_get-get_or xs i x inside ∙ ap (λ y. Some y) (sym is)))

-- a set of one cell at a place of the shape
pub one-cell : (op : Op) (ins : List Extent) (i : ℕ) (o : Cell) (e : Extent) → is_elementwise op ≡ true
    → i < arity op
    → named_in e (o ∷ []) ≡ cells_where e (mapped op ins i o)
one-cell op ins i o e h few =
    cells_where-ext e (λ c. list_any (is_same c) (o ∷ [])) (mapped op ins i o)
    (λ c held. or-false (is_same c o) ∙ sym (mapped-same op ins i o c h few))

-- ---- all local operators

-- the relation of a local operator is its mapping
has-map : (op : Op) → is_local op ≡ true → has_mapping op ≡ true
has-map Lookup h = h
has-map (Regions t) h = h
has-map (Clean t) h = h
has-map _ h = refl

pub related-mapped : (s : Site) (inputs : List Grid) (i : ℕ) (o x : Cell) → is_local s.op ≡ true
    → IsAtWork s inputs → related s.op inputs i o x ≡ mapped s.op s.ins i o x
related-mapped s inputs i o x h work = at_work.related-mapped s inputs i o x (has-map s.op h) work
