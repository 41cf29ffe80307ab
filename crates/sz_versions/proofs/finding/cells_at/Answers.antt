-- At the end the cells are all that are named.
use Rattle.std.proofs.Common.{List, map, ap, ◌∙◌}
use Rattle.std.proofs.lemmas.List.{take_all}
use Rattle.std.proofs.lemmas.Result.{IfOk-weaker}
use Rattle.sz_cells.specs.declared.Cell.{Cell}
use Rattle.sz_cells.specs.Cells.{named_in}
use Rattle.sz_script.specs.declared.command.NamedCell.{NamedCell}
use Rattle.sz_catalogue.specs.Starts.{cell_named}
use Rattle.sz_versions.proofs.finding.cells_at.Goals as goal

pub returns : goal.returns
returns c =
    let all = c.deref.ensures.value ∙ c.loop-one.invariant.cells
    ∙ ap (λ (ps : List NamedCell). map (cell_named c.args.shape) ps)
    (take_all c.loop-one.one-index c.args.named.now c.loop-one-test.false) in
    IfOk-weaker c.from_cells.result _ _
    (λ s p. p ∙ ap (λ (cs : List Cell). named_in c.args.shape cs) all) c.from_cells.ensures
