-- Under the window lie just the related cells.
use Rattle.std.proofs.Common.{map, ◌∙◌}
use Rattle.std.specs.Arc.{arc_value}
use Rattle.sz_spec.specs.declared.modes.Dir.TheVariants.{Back}
use Rattle.sz_spec.specs.Lineage.{related}
use Rattle.sz_spec.specs.Operators.Convolve.{is_convolved}
use Rattle.sz_frame.specs.Walks.{steps}
use Rattle.sz_frame.proofs.Added.{with-ext}
use Rattle.sz_ops_window.proofs.Inputs.{clean-side, clean-related}
use Rattle.sz_ops_window.proofs.clean.CleaningAtWork.back_into.Goals as goal

pub returns : goal.returns
returns c =
    let w = c.args.self.now in
    let s = w.at.now in
    let grids = map (λ a. arc_value a) w.inputs.now in
    let side = clean-side s w.t c.args._input w.kind c.requires.right.site c.requires.input in
    (rw c.out.ensures.value at c.add_under.ensures)
    ∙ with-ext c.args.to.now (steps Back (is_convolved s.out c.window.result) c.args.out)
    (λ x. related s.op grids c.args._input c.args.out x)
    (λ x held. c.window.ensures x (rw (← side, ← c.requires.to) held)
    ∙ clean-related s w.t grids c.args._input c.args.out x w.kind c.requires.right.site c.requires.input)
