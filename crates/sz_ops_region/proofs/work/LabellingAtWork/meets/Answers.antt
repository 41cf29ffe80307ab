-- A cell that is related to itself alone meets the set where it is in it.
use Rattle.std.proofs.Common.{map, sym, ap, subst, ◌∙◌, ◌≡◌, true}
use Rattle.std.specs.Arc.{arc_value}
use Rattle.sz_cells.specs.Extent.{Extent, holds}
use Rattle.sz_spec.specs.Values.{extent_at}
use Rattle.sz_frame.proofs.Added.{own-at}
use Rattle.sz_ops_region.proofs.Labels.{meets-itself, one-input, one-shape}
use Rattle.sz_ops_region.proofs.work.LabellingAtWork.meets.Goals as goal

pub returns-in-None : goal.returns-in-None
returns-in-None c =
    let w = c.args.self.now in
    let s = w.at.now in
    let grids = map (λ a. arc_value a) w.inputs.now in
    let e = extent_at s.ins c.args._input in
    let first = one-input s w.t c.args._input w.labels c.requires.right.site c.requires.input in
    let same = ap (extent_at s.ins) first ∙ one-shape s w.t w.labels c.requires.right.site.shape in
    c.has.ensures
    ∙ meets-itself s grids c.args._input c.args.out c.args.from.now e first c.in-None.ensures.itself
    (own-at c.args.from.now e c.requires.from c.shape.ensures.rising)
    (subst (λ (f : Extent). holds f c.args.out ≡ true) (sym same) c.requires.out)
