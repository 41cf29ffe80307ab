-- As many were counted as turns were taken.
use Rattle.std.proofs.Common.{◌≡◌, ◌+◌}
use Rattle.sz_refresh.proofs.output.count_all.Given as goal

abbrev pub invariant-loop : goal.invariant-loop
invariant-loop l = l.tally ≡ l.fn.tally + l.counter
