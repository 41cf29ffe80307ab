-- The relation is the mapping.
use Rattle.std.proofs.Common.{map, ◌∙◌}
use Rattle.std.specs.Arc.{arc_value}
use Rattle.sz_spec.specs.Values.{extent_at}
use Rattle.sz_frame.proofs.Added.{own-at}
use Rattle.sz_frame.proofs.Inputs.{meets-related}
use Rattle.sz_frame.proofs.mapping.MappedAtWork.meets.Goals as goal

pub returns : goal.returns
returns g c =
    let s = g.M.Mapping.site c.args.self.now.of in
    let own = own-at c.args.from.now (extent_at s.ins c.args.input) c.requires.from c.shape.ensures.rising in
    c.meets.ensures
    ∙ meets-related s (map (λ a. arc_value a) c.args.self.now.inputs.now) c.args.input c.args.out c.args.from.now
    c.at.ensures.mapping c.requires.right own
