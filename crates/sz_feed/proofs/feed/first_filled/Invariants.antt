-- The bytes so far are blank.
use Rattle.std.proofs.Common.{◌≡◌, true, take}
use Rattle.sz_commands.specs.Lines.{is_blank}
use Rattle.sz_feed.proofs.feed.first_filled.Given as goal

abbrev pub invariant-loop-at : goal.invariant-loop-at
invariant-loop-at l = is_blank (take l.at l.bytes) ≡ true
