-- There is a value for each cell.
use Rattle.std.proofs.Common.{map, length, List, Option, sym, ap, ◌∙◌}
use Rattle.std.specs.Prelude.{ℤ}
use Rattle.std.specs.Arc.{arc_value}
use Rattle.sz_cells.specs.Extent.{size_of}
use Rattle.sz_frame.proofs.Added.{values-length}
use Rattle.sz_flow.proofs.output.output_of.Goals as goal

pub array_of-requires : goal.array_of-requires
array_of-requires g c =
    let s = c.args.at.now in
    ap (λ (vs : List (Option ℤ)). length vs) c.in_ok-values.ensures
    ∙ values-length s (map (λ a. arc_value a) c.args.inputs.now) (size_of s.out)
    ∙ sym (ap size_of c.out-shape.ensures.value)
