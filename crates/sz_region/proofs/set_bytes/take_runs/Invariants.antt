-- The runs so far are the first ones that the bytes spell, and the longest ones of a set.
use Rattle.std.proofs.Common.{◌≡◌, ◌/◌, length, take}
use Rattle.sz_cells.specs.Extent.{size_of}
use Rattle.sz_cells.specs.Runs.{AreRunsFrom}
use Rattle.sz_cells.specs.SetWords.{runs_spelled}
use Rattle.sz_region.proofs.Spelling.{end_of}
use Rattle.sz_region.proofs.set_bytes.take_runs.Given as goal

abbrev pub invariant-loop-index : goal.invariant-loop-index
invariant-loop-index l = record {
  count : l.index-end ≡ length l.body / 8;
  size : l.size ≡ size_of l.shape;
  runs : l.to.items ≡ take l.index (runs_spelled l.body);
  longest : AreRunsFrom 0 (size_of l.shape) l.to.items;
  least : l.least ≡ end_of 0 l.to.items;
}
