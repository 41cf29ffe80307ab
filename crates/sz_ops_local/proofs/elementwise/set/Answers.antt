-- The one cell is at the same place.
use Rattle.std.proofs.Common.{◌<◌, ◌≡◌, [], ◌∷◌, sym, ap, ◌∙◌, arith}
use Rattle.sz_cells.specs.Extent.{Extent}
use Rattle.sz_cells.specs.Cells.{named_in}
use Rattle.sz_spec.specs.Values.{extent_at}
use Rattle.sz_spec.specs.Shapes.{arity}
use Rattle.sz_ops_local.proofs.Places.{one-cell}
use Rattle.sz_ops_local.proofs.elementwise.set.Goals as goal

pub returns : goal.returns
returns c =
    let s = c.args.at.now in
    let site = c.shape_of_all-shape.ensures.site in
    let few : c.args.input < arity s.op = omega (arith, c.requires.input, site.arity) in
    let shape : c.shape_of_all-shape.result ≡ extent_at s.ins c.args.input =
    c.shape_of_all-shape.ensures.out ∙ sym (c.shape_of_all-shape.ensures.ins c.args.input c.requires.input) in
    c.in_ok-new.ensures.ok ∙ c.in_ok-set.ensures
    ∙ ap (λ (e : Extent). named_in e (c.args.out ∷ [])) shape
    ∙ one-cell s.op s.ins c.args.input c.args.out (extent_at s.ins c.args.input) c.requires.op few
