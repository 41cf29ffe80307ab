-- How many kinds of lineage a test of cells has.
--
-- The key idea: that is settled by what the test says of the output's cells and of the inputs'. So two stores that
-- stand for the same have as many, and one that stands for an operator's relation has as many as the operator.
use Rattle.std.proofs.Common.{◌≡◌, ◌∙◌, ℕ, ◌<◌, Bool, true, not, List, map, length, get_or, sym, ap, arith}
use Rattle.std.specs.List.{filter, range_with_len}
use Rattle.std.proofs.lemmas.List.{length-map, get_or-map}
use Rattle.std.proofs.lemmas.Option.{unwrap_or-slice_get}
use Rattle.sz_cells.specs.declared.Cell.{Cell}
use Rattle.sz_cells.specs.Extent.{Extent, holds, size_of, cell_of}
use Rattle.sz_cells.specs.Cells.{Cells, cells_where}
use Rattle.sz_cells.proofs.Sets.{cells_where-ext, cell-held}
use Rattle.sz_spec.specs.Values.{Grid, extents_of, extent_at, input_at, no_extent, no_grid}
use Rattle.sz_spec.specs.Shapes.{Site, output_extent}
use Rattle.sz_spec.specs.Lineage.{related}
use Rattle.sz_spec.specs.Kinds.{lineage_of, is_nothing, different, kinds_of}
use Rattle.sz_frame.specs.Images.{measure_of}
use Rattle.sz_frame.specs.Laws.{IsTheRelation}
use Rattle.sz_merge.proofs.Counted.{lineage_by, lineages_by}
use Rattle.sz_merge.proofs.Sets.{map-range_ext}

-- ---- tests that agree

-- two tests agree on each cell of the output and each of an input
abbrev pub Agree : Site → (ℕ → Cell → Cell → Bool) → (ℕ → Cell → Cell → Bool) → Type 0
Agree s p q = (i : ℕ) (o x : Cell) → i < length s.ins → holds s.out o ≡ true → holds (extent_at s.ins i) x ≡ true
    → p i o x ≡ q i o x

lineage-agrees : (s : Site) (p q : ℕ → Cell → Cell → Bool) (o : Cell) → Agree s p q → holds s.out o ≡ true
    → lineage_by s p o ≡ lineage_by s q o
lineage-agrees s p q o agree out =
    map-range_ext (λ i. (cells_where (extent_at s.ins i) (p i o)).indexes)
    (λ i. (cells_where (extent_at s.ins i) (q i o)).indexes) (length s.ins) 0
    (λ i low high.
    ap (λ (c : Cells). c.indexes) (cells_where-ext (extent_at s.ins i) (p i o) (q i o)
    (λ x held. agree i o x (omega arith) out held)))

-- they have the same kinds
pub kinds-agree : (s : Site) (p q : ℕ → Cell → Cell → Bool) → Agree s p q
    → different (lineages_by s p) ≡ different (lineages_by s q)
kinds-agree s p q agree =
    ap (λ (all : List (List (List ℕ))). different (filter (λ sets. not (is_nothing sets)) all))
    (map-range_ext (λ k. lineage_by s p (cell_of s.out k)) (λ k. lineage_by s q (cell_of s.out k)) (size_of s.out) 0
    (λ k low high. lineage-agrees s p q (cell_of s.out k) agree (cell-held s.out k (omega arith))))

-- ---- an operator's relation

-- an operator whose rule gives its output's shape, and arrays of its inputs' shapes
pub record AreOver (s : Site) (inputs : List Grid) : Type 0 where
  pub shape : output_extent s.op s.ins ≡ s.out
  pub inputs_shapes : extents_of inputs ≡ s.ins

inputs-long : (inputs : List Grid) (ins : List Extent) → extents_of inputs ≡ ins → length inputs ≡ length ins
inputs-long inputs ins same = sym (length-map inputs (λ (g : Grid). g.extent)) ∙ ap length same

input-shape : (inputs : List Grid) (ins : List Extent) (i : ℕ) → extents_of inputs ≡ ins → i < length ins
    → (input_at inputs i).extent ≡ extent_at ins i
input-shape inputs ins i same inside =
    let long = inputs-long inputs ins same in
    ap (λ (g : Grid). g.extent) (unwrap_or-slice_get inputs i no_grid)
    ∙ sym (get_or-map (λ (g : Grid). g.extent) inputs i no_grid no_extent (omega (arith, long, inside)))
    ∙ ap (λ (es : List Extent). get_or es i no_extent) same
    ∙ sym (unwrap_or-slice_get ins i no_extent)

-- the lineage of a cell by the relation is the operator's
lineage-related : (s : Site) (inputs : List Grid) (o : Cell) → extents_of inputs ≡ s.ins
    → lineage_by s (related s.op inputs) o ≡ lineage_of s.op inputs o
lineage-related s inputs o same =
    let f : ℕ → List ℕ = λ i. (cells_where (input_at inputs i).extent (related s.op inputs i o)).indexes in
    map-range_ext (λ i. (cells_where (extent_at s.ins i) (related s.op inputs i o)).indexes) f (length s.ins) 0
    (λ i low high.
    ap (λ (e : Extent). (cells_where e (related s.op inputs i o)).indexes)
    (sym (input-shape inputs s.ins i same (omega arith))))
    ∙ ap (λ (n : ℕ). map f (range_with_len 0 n)) (sym (inputs-long inputs s.ins same))

-- so what stands for the relation has the operator's kinds
pub kinds-related : (s : Site) (inputs : List Grid) (stands : ℕ → Cell → Cell → Bool) → AreOver s inputs
    → IsTheRelation (measure_of s inputs) stands → different (lineages_by s stands) ≡ kinds_of s.op inputs
kinds-related s inputs stands over exact =
    let kept : List (List (List ℕ)) → ℕ = λ all. different (filter (λ sets. not (is_nothing sets)) all) in
    kinds-agree s stands (related s.op inputs) exact
    ∙ ap kept (map-range_ext (λ k. lineage_by s (related s.op inputs) (cell_of s.out k))
    (λ k. lineage_of s.op inputs (cell_of s.out k)) (size_of s.out) 0
    (λ k low high. lineage-related s inputs (cell_of s.out k) over.inputs_shapes))
    ∙ ap (λ (e : Extent). kept (map (λ k. lineage_of s.op inputs (cell_of e k)) (range_with_len 0 (size_of e))))
    (sym (ap (output_extent s.op) over.inputs_shapes ∙ over.shape))
