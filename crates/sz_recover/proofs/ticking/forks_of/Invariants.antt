-- There are as many as were counted, each without a tick.
use Rattle.std.proofs.Common.{◌≡◌, length}
use Rattle.std.specs.List.{All}
use Rattle.sz_recover.specs.Ticking.{IsFork}
use Rattle.sz_recover.proofs.ticking.forks_of.Given as goal

abbrev pub invariant-loop-piece : goal.invariant-loop-piece
invariant-loop-piece l = (length l.forks.items ≡ l._piece) × All (IsFork l.list) l.forks.items
