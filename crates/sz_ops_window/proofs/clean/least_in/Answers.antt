-- Each row adds its cells' values.
use Rattle.std.proofs.Common.{to_z, of_z, w64, None}
use Rattle.sz_ops_window.proofs.Least.{rows-next}
use Rattle.sz_ops_window.proofs.clean.least_in.Goals as goal

pub loop-row-preserved : goal.loop-row-preserved
loop-row-preserved c =
    let w = c.args.window in
    rows-next (to_z w64 (of_z w64 c.args.t)) c.args.array.now w.top c.loop-row.row w.left w.right None
    c.loop-row.least c.with_row-least.result c.loop-row.auto.row c.loop-row.invariant c.with_row-least.ensures
