-- The word of the cell is the label of the cells that have it.
use Rattle.std.proofs.Common.{◌<◌, ℕ, pos, List, length, get_or, sym, ap, ◌∙◌, arith}
use Rattle.std.proofs.lemmas.List.{get_or_default}
use Rattle.sz_cells.specs.Extent.{size_of}
use Rattle.sz_cells.specs.Cells.{Cells}
use Rattle.sz_spec.specs.Operators.Regions.{label_of}
use Rattle.sz_ops_region.proofs.Labelled.{labelled-length, labelled-word}
use Rattle.sz_ops_region.proofs.cell_labels.Labels.label.Goals as goal

pub index-requires : goal.index-requires
index-requires c =
    let kept = c.self.inside in
    omega (
      arith,
      c.requires,
      ap (λ (xs : List Cells). length xs) c.self.view_is,
      labelled-length kept.shape kept.words.items,
      c.self.invariant.0,
    )

pub returns : goal.returns
returns c d =
    let kept = c.self.inside in
    let words = kept.words.items in
    let k = c.args.index in
    let below : k < size_of kept.shape = omega (
      arith,
      c.requires,
      ap (λ (xs : List Cells). length xs) c.self.view_is,
      labelled-length kept.shape words,
    ) in
    let inside : k < length words = omega (arith, below, c.self.invariant.0) in
    ap (λ (w : ℕ). pos w) (c.index.ensures ∙ sym (get_or_default words k 0 c.index.result.now inside))
    ∙ labelled-word kept.shape words k d c.self.invariant.1 below
    ∙ ap (λ (xs : List Cells). label_of (get_or xs k d).indexes) c.self.view_is
