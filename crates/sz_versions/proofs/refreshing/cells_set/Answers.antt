-- At the end the cells are all that are set.
use Rattle.std.proofs.Common.{List, map, ap, ◌∙◌}
use Rattle.std.proofs.lemmas.List.{take_all}
use Rattle.std.proofs.lemmas.Result.{IfOk-weaker}
use Rattle.sz_cells.specs.declared.Cell.{Cell}
use Rattle.sz_cells.specs.Extent.{cell_in}
use Rattle.sz_cells.specs.Cells.{named_in}
use Rattle.sz_script.specs.declared.command.NewCell.{NewCell}
use Rattle.sz_versions.proofs.refreshing.cells_set.Goals as goal

pub returns : goal.returns
returns c =
    let all = c.deref.ensures.value ∙ c.loop-one.invariant.cells
    ∙ ap (λ (xs : List NewCell). map (λ (x : NewCell). cell_in c.args.shape x.layer x.row x.col) xs)
    (take_all c.loop-one.one-index c.args.set.now c.loop-one-test.false) in
    IfOk-weaker c.from_cells.result _ _
    (λ s p. p ∙ ap (λ (cs : List Cell). named_in c.args.shape cs) all) c.from_cells.ensures
