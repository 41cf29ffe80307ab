-- The asks of the queries can go on.
use Rattle.sz_core.proofs.Starting.{queries-ready, shelves-right}
use Rattle.sz_core.proofs.machine.Machine.new.Goals as goal

pub invariant_of-result : goal.invariant_of-result
invariant_of-result c =
    let right = shelves-right c.args.flow c.args.base.items c.args.shelves.items c.requires.shelves in
    rw (c.in_ok-asks.ensures, c.in_ok-shelves.ensures, c.deref.ensures.value)
    (queries-ready c.args.flow c.args.base.items c.args.shelves.items c.args.asks.items right.0 c.requires.asks)
