-- The gap is read first, and then how many cells are behind the first.
use Rattle.std.proofs.Common.{arith, rules}
use Rattle.sz_short.proofs.ShortRuns.{none-behind, none-far}
use Rattle.sz_short.proofs.sets.take_run.Goals as goal

pub returns-in_err-behind-clause-none : goal.returns-in_err-behind-clause-none
returns-in_err-behind-clause-none c =
    let none = none-behind c.args.least c.args.bound c.args.bytes.now c.args.at c.in_ok-gap.place c.in_ok-gap.gap
    c.requires (omega arith) c.in_ok-gap.ensures.some c.in_err-behind.ensures.none in
    search rules

pub returns-then-from-last-clause-none : goal.returns-then-from-last-clause-none
returns-then-from-last-clause-none c =
    none-far c.args.least c.args.bound c.args.bytes.now c.args.at c.in_ok-gap.place c.in_ok-behind.next c.in_ok-gap.gap
    c.in_ok-behind.behind c.requires (omega arith) (omega arith) c.in_ok-gap.ensures.some c.in_ok-behind.ensures.some
    (omega arith)
