-- No byte 10 is among the bytes so far.
use Rattle.std.proofs.Common.{◌≡◌, ◌-◌, true, take, drop}
use Rattle.sz_commands.specs.Lines.{is_within_line}
use Rattle.sz_feed.proofs.feed.newline_from.Given as goal

abbrev pub invariant-loop-at : goal.invariant-loop-at
invariant-loop-at l = is_within_line (take (l.at - l.start) (drop l.start l.chunk)) ≡ true
