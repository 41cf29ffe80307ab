-- Input by input.
use Rattle.std.proofs.Common.{◌≡◌, true, arith, below_more}
use Rattle.sz_recover.proofs.checking.are_one.Goals as goal

pub loop-input-preserved : goal.loop-input-preserved
loop-input-preserved c =
    let yes : c.in_ok-are_one_on.field-0 ≡ true = grind (arith, c.if-not-branch.false) in
    below_more _ _ c.loop-input.invariant (c.in_ok-are_one_on.ensures.0 yes)
