-- A row that is none ends the walk.
use Rattle.std.proofs.Common.{◌∙◌, sym}
use Rattle.sz_script.specs.Layers.{is_row}
use Rattle.sz_script.proofs.Walks.{walked_bad}
use Rattle.sz_script.proofs.layers.push_rows.Goals as goal

pub returns-then-not-branch-clause-tested : goal.returns-then-not-branch-clause-tested
returns-then-not-branch-clause-tested c =
    sym (walked_bad (is_row c.args.width) c.args.rows.now c.loop-row.row-index c.row-item.result c.loop-row-test.true
    c.row-item.is (sym c.in_ok-push_row.ensures.tested ∙ c.if-not-branch.true))
