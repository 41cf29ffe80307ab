-- The walk has come to the step of the index.
use Rattle.std.proofs.Common.{◌≡◌, length, drop}
use Rattle.sz_query.proofs.OnWay.{IsOnWay}
use Rattle.sz_query.proofs.steps.take_steps.Given as goal

abbrev pub invariant-loop-index : goal.invariant-loop-index
invariant-loop-index g l =
    (l.index-end ≡ length l.views)
    × IsOnWay l.dir l.fn.views l.inputs l.fn.set l.fn.tally l.index l.views (drop l.index l.sides) l.set l.tally
    l.used.items
