-- The element at the index of the array at the place.
use Rattle.std.proofs.Common.{map, None, sym, ap, ◌∙◌, arith}
use Rattle.std.specs.Arc.{arc_value}
use Rattle.std.proofs.lemmas.Option.{unwrap_or-slice_get}
use Rattle.sz_cells.specs.Extent.{index_of, size_of}
use Rattle.sz_cells.proofs.Sets.{index-below}
use Rattle.sz_spec.specs.Values.{Grid, input_at}
use Rattle.sz_ops_local.proofs.Places.{input-is}
use Rattle.sz_ops_local.proofs.elementwise.value_of_input.Goals as goal

pub bounds-cells-index : goal.bounds-cells-index
bounds-cells-index c =
    let at = input-is (λ a. arc_value a) c.args.inputs.now c.args.input c.index-inputs-input.result c.requires.input
    c.index-inputs-input.is in
    let grid = at ∙ sym c.deref.ensures in
    let below = index-below (input_at (map (λ a. arc_value a) c.args.inputs.now) c.args.input).extent c.args.cell
    c.requires.cell in
    let size = ap (λ (g : Grid). size_of g.extent) grid in
    omega (arith, c.requires.index, below, size, c.cells.ensures.count)

pub returns : goal.returns
returns c =
    let at = input-is (λ a. arc_value a) c.args.inputs.now c.args.input c.index-inputs-input.result c.requires.input
    c.index-inputs-input.is in
    let grid = at ∙ sym c.deref.ensures in
    let values = c.cells.ensures.values ∙ ap (λ (g : Grid). g.values) (sym grid) in
    rw (values, c.requires.index) (sym (unwrap_or-slice_get (input_at (map (λ a. arc_value a) c.args.inputs.now)
    c.args.input).values
    (index_of (input_at (map (λ a. arc_value a) c.args.inputs.now) c.args.input).extent c.args.cell) None))
