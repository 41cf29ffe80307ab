-- The label that was prepared for the cell is its value.
use Rattle.std.proofs.Common.{◌≡◌, ℕ, ◌<◌, Some, length, get_or, map, sym, ap, subst, ◌∙◌}
use Rattle.std.specs.Prelude.{ℤ}
use Rattle.std.specs.Arc.{arc_value}
use Rattle.sz_cells.specs.Extent.{Extent, index_of}
use Rattle.sz_cells.specs.Cells.{no_cells}
use Rattle.sz_spec.specs.Work.{IsAtWork}
use Rattle.sz_spec.specs.Operators.Regions.{label_of}
use Rattle.sz_ops_region.proofs.Labelled.{prepared-is, prepared-within, prepared-value}
use Rattle.sz_ops_region.proofs.calls.value_at.Goals.{After-threshold-t, After-index-index}
use Rattle.sz_ops_region.proofs.calls.value_at.Goals as goal

work : (c : After-threshold-t) → IsAtWork c.args.at.now (map (λ a. arc_value a) c.args.inputs.now)
work c = record {
  site = c.threshold-t.ensures.site;
  shapes = c.requires.inputs;
  right = c.threshold-t.ensures.right;
}

index : (c : After-index-index) → c.index-index.result ≡ index_of c.args.at.now.out c.args.cell
index c = c.index-index.ensures.value ∙ ap (λ (e : Extent). index_of e c.args.cell) c.out.ensures.value

pub label-requires : goal.label-requires
label-requires c =
    let s = c.args.at.now in
    let here = goal.at.label-requires c in
    let is = c.threshold-t.ensures.value in
    let found = prepared-is s (map (λ a. arc_value a) c.args.inputs.now) c.threshold-t.result c.in-Labels.labels
    c.args.aid.now is (rw c.in-Labels.is at c.kept.ensures) c.requires.aid in
    subst (λ (k : ℕ). k < length c.in-Labels.labels) (sym (index here.After-index-index))
    (prepared-within s (map (λ a. arc_value a) c.args.inputs.now) c.threshold-t.result c.in-Labels.labels c.args.cell is
    (work here.After-threshold-t) found c.requires.cell)

pub returns-in-Labels : goal.returns-in-Labels
returns-in-Labels c =
    let grids = map (λ a. arc_value a) c.args.inputs.now in
    let here = goal.at.returns-in-Labels c in
    let t = c.threshold-t.result in
    let labels = c.in-Labels.labels in
    let none = no_cells c.args.at.now.out in
    let found = prepared-is c.args.at.now grids t labels c.args.aid.now c.threshold-t.ensures.value
    (rw c.in-Labels.is at c.kept.ensures) c.requires.aid in
    c.value_of.ensures
    ∙ ap (λ (z : ℤ). Some z) (c.label.ensures none)
    ∙ ap (λ (k : ℕ). Some (label_of (get_or labels k none).indexes)) (index here.After-index-index)
    ∙ prepared-value c.args.at.now grids t labels c.args.cell none c.threshold-t.ensures.value
    (work here.After-threshold-t) found c.requires.cell
