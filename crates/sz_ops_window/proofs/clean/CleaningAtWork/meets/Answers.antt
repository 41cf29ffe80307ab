-- Under the window lie just the related cells.
use Rattle.std.proofs.Common.{ℕ, map, sym, ap, ◌∙◌}
use Rattle.std.specs.Arc.{arc_value}
use Rattle.sz_cells.specs.Cells.{any_cell, has}
use Rattle.sz_cells.proofs.Sets.{any_cell-ext}
use Rattle.sz_spec.specs.Lineage.{related}
use Rattle.sz_spec.specs.Operators.Convolve.{is_convolved}
use Rattle.sz_frame.proofs.Added.{own-at}
use Rattle.sz_ops_window.proofs.Inputs.{clean-windowed, one-input, no-other_input, input-side}
use Rattle.sz_ops_window.proofs.clean.CleaningAtWork.meets.Goals as goal

pub returns : goal.returns
returns c =
    let w = c.args.self.now in
    let s = w.at.now in
    let from = c.args.from.now in
    let grids = map (λ a. arc_value a) w.inputs.now in
    let told = rw c.out.ensures.value at c.meets_under.ensures in
    let ins = one-input s (clean-windowed w.at.now w.t w.kind) c.requires.right.site in
    let own = own-at from s.out (c.requires.from ∙ input-side s c.args._input ins c.requires.input)
    c.shape.ensures.rising in
    told
    ∙ ap (any_cell (is_convolved s.out c.window.result c.args.out)) own
    ∙ any_cell-ext s.out (has from) (is_convolved s.out c.window.result c.args.out)
    (λ x. related s.op grids c.args._input c.args.out x)
    (λ x held passes. c.window.ensures x held
    ∙ ap (λ (i : ℕ). related s.op grids i c.args.out x) (sym (no-other_input s c.args._input ins c.requires.input)))
    ∙ ap (any_cell (λ x. related s.op grids c.args._input c.args.out x)) (sym own)
