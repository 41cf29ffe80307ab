-- The runs so far are longest ones of the shape, and their bytes stand behind their number.
use Rattle.std.proofs.Common.{◌≡◌, length}
use Rattle.sz_cells.specs.Extent.{size_of}
use Rattle.sz_cells.specs.Runs.{AreRunsFrom}
use Rattle.sz_region.specs.Counted.{IsAt}
use Rattle.sz_region.proofs.Spelling.{end_of}
use Rattle.sz_short.specs.ShortSets.{short_runs}
use Rattle.sz_short.proofs.sets.take_runs.Given as goal

abbrev pub invariant-loop-index : goal.invariant-loop-index
invariant-loop-index l = record {
  count : length l.runs.items ≡ l._index;
  longest : AreRunsFrom 0 (size_of l.shape) l.runs.items;
  least : l.least ≡ end_of 0 l.runs.items;
  bytes : IsAt l.bytes l.first l.place (short_runs 0 l.runs.items);
}
