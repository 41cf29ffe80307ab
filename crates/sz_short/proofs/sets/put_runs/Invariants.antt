-- The bytes so far are those of the number of runs and of the runs before this one.
use Rattle.std.proofs.Common.{◌≡◌, ◌++◌, length, take}
use Rattle.sz_region.proofs.Spelling.{end_of}
use Rattle.sz_short.specs.ShortNumber.{short_number}
use Rattle.sz_short.specs.ShortSets.{short_runs}
use Rattle.sz_short.proofs.sets.put_runs.Given as goal

abbrev pub invariant-loop-run : goal.invariant-loop-run
invariant-loop-run l = record {
  items : l.to.items
      ≡ l.fn.to.items ++ (short_number (length l.runs) ++ short_runs 0 (take l.run-index l.runs));
  from : l.from ≡ end_of 0 (take l.run-index l.runs);
}
