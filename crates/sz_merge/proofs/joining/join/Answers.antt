-- The joined sets have the inputs' shapes.
use Rattle.std.proofs.Common.{◌∙◌, List, map, ap}
use Rattle.std.specs.Arc.{arc_value}
use Rattle.sz_cells.specs.Extent.{Extent}
use Rattle.sz_cells.specs.Cells.{Cells}
use Rattle.sz_merge.proofs.Sets.{joined-extents}
use Rattle.sz_merge.proofs.joining.join.Goals as goal

pub add-requires : goal.add-requires
add-requires c =
    let shapes : List Cells → List Extent = λ ss. map (λ (s : Cells). s.extent) ss in
    ap shapes c.in_ok-sets.ensures
    ∙ joined-extents (map (λ a. arc_value a) c.sets.result.now) (map (λ a. arc_value a) c.as_slice.result.now)
    ∙ ap shapes c.sets.ensures.sets ∙ c.sets.ensures.extents
