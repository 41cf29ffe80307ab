-- The key idea: a turn lists the payload of the number at the index.
use Rattle.std.proofs.Common.{◌<◌, length, sym, arith}
use Rattle.sz_tables.proofs.Entries.{payloads-more}
use Rattle.sz_tables.proofs.entry_table.list_payloads.Goals as goal

pub loop-number-preserved : goal.loop-number-preserved
loop-number-preserved c =
    let ps = c.args.table.now.payloads in
    let n = c.loop-number.number in
    let inside : n < length ps = omega arith in
    rw (c.in_ok-push.ensures.items, c.listed.ensures, c.loop-number.invariant) (sym (payloads-more ps n inside))
