-- The relation is the mapping.
use Rattle.std.proofs.Common.{map, ◌∙◌}
use Rattle.std.specs.Arc.{arc_value}
use Rattle.sz_frame.proofs.Inputs.{adds-related}
use Rattle.sz_frame.proofs.mapping.MappedAtWork.back_into.Goals as goal

pub returns : goal.returns
returns g c =
    c.back_into.ensures
    ∙ adds-related (g.M.Mapping.site c.args.self.now.of) (map (λ a. arc_value a) c.args.self.now.inputs.now)
    c.args.input c.args.out c.args.to.now c.at.ensures.mapping c.requires.right
