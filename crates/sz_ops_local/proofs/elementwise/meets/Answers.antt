-- The one cell is at the same place.
use Rattle.std.proofs.Common.{◌<◌, sym, ◌∙◌, arith}
use Rattle.sz_spec.specs.Shapes.{arity}
use Rattle.sz_spec.specs.Lineage.{mapped}
use Rattle.sz_frame.proofs.Added.{own-at}
use Rattle.sz_ops_local.proofs.Places.{any-at_place, mapped-same}
use Rattle.sz_ops_local.proofs.elementwise.meets.Goals as goal

pub returns : goal.returns
returns c =
    let s = c.args.at.now in
    let i = c.args.input in
    let site = c.shape_of_all.ensures.site in
    let few : i < arity s.op = omega (arith, c.requires.input, site.arity) in
    let same = c.shape_of_all.ensures.ins i c.requires.input in
    let own = own-at c.args.from.now s.out (c.requires.from ∙ same) c.shape.ensures.rising in
    c.has.ensures
    ∙ sym (any-at_place s.out c.args.from.now (λ x. mapped s.op s.ins i c.args.out x) c.args.out own
    c.requires.out
    (λ x. mapped-same s.op s.ins i c.args.out x c.requires.op few))
