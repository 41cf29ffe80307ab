-- A component is of the output's shape, and that of a cell that is not high has no index.
use Rattle.std.proofs.Common.{map, sym, ap, ◌∙◌, arith}
use Rattle.std.specs.Arc.{arc_value}
use Rattle.sz_cells.specs.Extent.{size_of}
use Rattle.sz_cells.specs.Cells.{Cells}
use Rattle.sz_spec.specs.Values.{input_at}
use Rattle.sz_spec.proofs.Components.{component-made}
use Rattle.sz_frame.specs.Groups.{least_of}
use Rattle.sz_ops_region.proofs.Labels.{grid-shape}
use Rattle.sz_ops_region.proofs.Sets.{low-component}
use Rattle.sz_ops_region.proofs.work.Labelling.least.Goals as goal

pub returns-in-Some-Shared-clause-few : goal.returns-in-Some-Shared-clause-few
returns-in-Some-Shared-clause-few c =
    let w = c.args.self.now in
    let grids = map (λ a. arc_value a) w.inputs.now in
    let g = input_at grids 0 in
    let part = rw c.in-Some-Shared.field-0-is at c.in-Some-Shared.ensures.value in
    let size = ap (λ (s : Cells). size_of s.extent) (part.0 ∙ component-made w.t g c.args.out)
    ∙ ap size_of (grid-shape w.at.now grids w.t w.labels c.requires.right ∙ sym c.out-shape.ensures.value) in
    omega (arith, c.first.ensures.within, size, c.size.ensures.value, c.size.ensures.few)

pub returns-in-None-clause-value : goal.returns-in-None-clause-value
returns-in-None-clause-value c =
    let w = c.args.self.now in
    let g = input_at (map (λ a. arc_value a) w.inputs.now) 0 in
    ap (λ (s : Cells). least_of s.indexes) (sym (low-component w.t g c.args.out (sym c.in-None.ensures.high)))
