-- The runs so far are the longest ones of a set.
use Rattle.std.proofs.Common.{◌≡◌, ◌/◌, length, take}
use Rattle.sz_cells.specs.Runs.{AreRunsFrom}
use Rattle.sz_cells.specs.SetWords.{runs_spelled}
use Rattle.sz_region.proofs.Spelling.{end_of}
use Rattle.sz_payload.proofs.runs.are_longest.Given as goal

abbrev pub invariant-loop-index : goal.invariant-loop-index
invariant-loop-index l = record {
  count : l.index-end ≡ length l.body / 8;
  longest : AreRunsFrom 0 l.size (take l.index (runs_spelled l.body));
  least : l.least ≡ end_of 0 (take l.index (runs_spelled l.body));
}
