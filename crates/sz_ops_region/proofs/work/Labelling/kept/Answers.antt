-- A cell by itself is connected to itself alone.
use Rattle.std.proofs.Common.{◌≡◌, [], ◌∷◌, map, sym}
use Rattle.std.specs.Arc.{arc_value}
use Rattle.sz_cells.specs.Extent.{index_of}
use Rattle.sz_spec.specs.Values.{input_at}
use Rattle.sz_spec.specs.Operators.Regions.{component_of}
use Rattle.sz_ops_region.proofs.Labels.{alone-itself}
use Rattle.sz_ops_region.proofs.work.Labelling.kept.Goals as goal

pub returns-in-Some-Alone-clause-itself : goal.returns-in-Some-Alone-clause-itself
returns-in-Some-Alone-clause-itself c x =
    let w = c.args.self.now in
    let grids = map (λ a. arc_value a) w.inputs.now in
    let o = c.args.out in
    let only : (component_of w.t (input_at grids 0) o).indexes ≡ index_of w.at.now.out o ∷ [] =
    rw c.in-Some-Alone.field-0-is at c.in-Some-Alone.ensures.value in
    alone-itself w.at.now grids w.t o x w.labels c.requires.right c.requires.out (sym c.in-Some-Alone.ensures.high) only
