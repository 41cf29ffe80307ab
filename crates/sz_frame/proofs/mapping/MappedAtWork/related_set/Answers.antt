-- The relation is the mapping.
use Rattle.std.proofs.Common.{◌≡◌, map, subst}
use Rattle.std.specs.Arc.{arc_value}
use Rattle.std.specs.Prelude.{IfOk}
use Rattle.sz_cells.specs.Cells.{Cells}
use Rattle.sz_frame.proofs.Inputs.{set-related}
use Rattle.sz_frame.proofs.mapping.MappedAtWork.related_set.Goals as goal

pub returns : goal.returns
returns g c =
    subst (λ (set : Cells). IfOk c.mapped_set.result (λ a. arc_value a ≡ set))
    (set-related (g.M.Mapping.site c.args.self.now.of) (map (λ a. arc_value a) c.args.self.now.inputs.now)
    c.args.input c.args.out c.at.ensures.mapping c.requires.right)
    c.mapped_set.ensures
