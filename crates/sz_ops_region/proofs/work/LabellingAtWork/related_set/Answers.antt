-- The set of a cell of a component that is kept is the component, and that of any other cell the cell.
use Rattle.std.proofs.Common.{map, ap, ◌∙◌, ◌∷◌, []}
use Rattle.std.specs.Arc.{arc_value}
use Rattle.sz_cells.specs.Extent.{Extent}
use Rattle.sz_cells.specs.Cells.{named_in}
use Rattle.sz_ops_region.proofs.Labels.{set-high, set-itself, one-input}
use Rattle.sz_ops_region.proofs.work.LabellingAtWork.related_set.Goals as goal

pub returns-in_ok-set-in-Some : goal.returns-in_ok-set-in-Some
returns-in_ok-set-in-Some c =
    let w = c.args.self.now in
    let grids = map (λ a. arc_value a) w.inputs.now in
    let first = one-input w.at.now w.t c.args._input w.labels c.requires.right.site c.requires.input in
    c.in_ok-set-in-Some.ensures ∙ c.in-Some.ensures.value
    ∙ set-high w.at.now grids w.t c.args._input c.args.out w.labels first c.requires.right
    c.in-Some.ensures.high

pub returns-in_ok-new-in-None : goal.returns-in_ok-new-in-None
returns-in_ok-new-in-None c =
    let w = c.args.self.now in
    let grids = map (λ a. arc_value a) w.inputs.now in
    let first = one-input w.at.now w.t c.args._input w.labels c.requires.right.site c.requires.input in
    c.in_ok-new-in-None.ensures.ok ∙ c.in_ok-set-in-None.ensures
    ∙ ap (λ (e : Extent). named_in e (c.args.out ∷ [])) c.out.ensures.value
    ∙ set-itself w.at.now grids w.t c.args._input c.args.out w.labels first c.requires.right c.in-None.ensures.itself
