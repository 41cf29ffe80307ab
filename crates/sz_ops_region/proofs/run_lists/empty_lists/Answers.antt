-- No list has a run.
use Rattle.std.proofs.Common.{arith, length}
use Rattle.sz_ops_region.proofs.Sets.{lists-none}
use Rattle.sz_ops_region.proofs.run_lists.empty_lists.Goals as goal

pub returns : goal.returns
returns c =
    let inv = c.loop-room.invariant in
    lists-none c.args.marks.now (length c.args.rooms.now) c.loop-room.lists.items (omega (arith, inv.count)) inv.none
