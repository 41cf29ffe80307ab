-- The strategies so far are those of the numbers so far.
use Rattle.std.proofs.Common.{◌≡◌, map, take}
use Rattle.sz_spec.specs.Modes.{number_of}
use Rattle.sz_bodies.proofs.lists.strategies_of.Given as goal

abbrev pub invariant-loop-number : goal.invariant-loop-number
invariant-loop-number l = map number_of l.list.items ≡ take l.number-index l.numbers
