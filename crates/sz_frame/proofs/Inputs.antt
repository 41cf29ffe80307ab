-- What holds of the inputs of any operator at work: their shapes, and that a mapping is the relation.
--
-- The key idea: at work, the shapes of the inputs are those of the site, so what is said over the one is said over the
-- other.
use Rattle.std.proofs.Common.{◌≡◌, ℕ, ◌<◌, get_or, true, sym, ap, ◌∙◌}
use Rattle.std.specs.Prelude.{List, length, Option, Some, unwrap_or}
use Rattle.std.proofs.lemmas.Option.{slice_get-get_or}
use Rattle.sz_cells.specs.declared.Cell.{Cell}
use Rattle.sz_cells.specs.Extent.{Extent}
use Rattle.sz_cells.specs.Cells.{Cells, any_cell, cells_where, has, with_those}
use Rattle.sz_cells.proofs.Sets.{any_cell-ext, cells_where-ext}
use Rattle.sz_spec.specs.Values.{Grid, no_extent, extent_at, input_at}
use Rattle.sz_spec.specs.Shapes.{Site}
use Rattle.sz_spec.specs.Lineage.{mapped, related}
use Rattle.sz_spec.specs.Modes.{has_mapping}
use Rattle.sz_spec.proofs.PayloadLineage.{extent-of_input}
use Rattle.sz_spec.proofs.PayloadLineage as lineage
use Rattle.sz_spec.specs.Work.{IsAtWork}
use Rattle.sz_frame.proofs.Added.{with-ext}

-- the shape at a place of a list of shapes
pub shape-is : (xs : List Extent) (i : ℕ) (x : Extent) → i < length xs → x ≡ get_or xs i x
    → x ≡ extent_at xs i
shape-is xs i x inside is =
    sym (ap (λ (o : Option Extent). unwrap_or o no_extent)
    (slice_get-get_or xs i x inside ∙ ap (λ y. Some y) (sym is)))

-- the shape of an input is that of the site
pub input-extent : (s : Site) (inputs : List Grid) (i : ℕ) → IsAtWork s inputs
    → (input_at inputs i).extent ≡ extent_at s.ins i
input-extent s inputs i work =
    sym (extent-of_input inputs i) ∙ ap (λ (ins : List Extent). extent_at ins i) work.shapes

-- of an operator with a mapping the relation is the mapping
pub related-mapped : (s : Site) (inputs : List Grid) (i : ℕ) (o x : Cell) → has_mapping s.op ≡ true
    → IsAtWork s inputs → related s.op inputs i o x ≡ mapped s.op s.ins i o x
related-mapped s inputs i o x h work =
    lineage.related-mapped s.op inputs i o x h ∙ ap (λ (ins : List Extent). mapped s.op ins i o x) work.shapes

-- so the cells that it adds are the related ones, it meets a set where a related cell is in it, and its set is theirs
pub adds-related : (s : Site) (inputs : List Grid) (i : ℕ) (o : Cell) (to : Cells) → has_mapping s.op ≡ true
    → IsAtWork s inputs
    → with_those to (λ x. mapped s.op s.ins i o x) ≡ with_those to (λ x. related s.op inputs i o x)
adds-related s inputs i o to h work =
    with-ext to (λ x. mapped s.op s.ins i o x) (λ x. related s.op inputs i o x)
    (λ x held. sym (related-mapped s inputs i o x h work))

pub meets-related : (s : Site) (inputs : List Grid) (i : ℕ) (o : Cell) (from : Cells) → has_mapping s.op ≡ true
    → IsAtWork s inputs
    → from ≡ cells_where (extent_at s.ins i) (has from)
    → any_cell (λ x. mapped s.op s.ins i o x) from ≡ any_cell (λ x. related s.op inputs i o x) from
meets-related s inputs i o from h work own =
    ap (any_cell (λ x. mapped s.op s.ins i o x)) own
    ∙ any_cell-ext (extent_at s.ins i) (has from) (λ x. mapped s.op s.ins i o x) (λ x. related s.op inputs i o x)
    (λ x held passes. sym (related-mapped s inputs i o x h work))
    ∙ ap (any_cell (λ x. related s.op inputs i o x)) (sym own)

pub set-related : (s : Site) (inputs : List Grid) (i : ℕ) (o : Cell) → has_mapping s.op ≡ true → IsAtWork s inputs
    → cells_where (extent_at s.ins i) (mapped s.op s.ins i o)
    ≡ cells_where (extent_at s.ins i) (related s.op inputs i o)
set-related s inputs i o h work =
    cells_where-ext (extent_at s.ins i) (mapped s.op s.ins i o) (related s.op inputs i o)
    (λ x held. sym (related-mapped s inputs i o x h work))
