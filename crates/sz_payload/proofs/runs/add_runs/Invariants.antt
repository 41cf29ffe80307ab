-- The set keeps its shape, and where the runs are the longest ones of a set, those so far were added.
use Rattle.std.proofs.Common.{◌≡◌, ◌/◌, length, take}
use Rattle.sz_cells.specs.Extent.{size_of}
use Rattle.sz_cells.specs.Cells.{union_of}
use Rattle.sz_cells.specs.Runs.{AreRunsFrom, covers}
use Rattle.sz_cells.specs.SetWords.{runs_spelled}
use Rattle.sz_cells.specs.Words.{cells_at}
use Rattle.sz_payload.proofs.runs.add_runs.Given as goal

abbrev pub invariant-loop-index : goal.invariant-loop-index
invariant-loop-index l =
    let e = l.fn.to.extent in
    record {
      count : l.index-end ≡ length l.body / 8;
      size : l.size ≡ size_of e;
      extent : l.to.extent ≡ e;
      added : AreRunsFrom 0 (size_of e) (runs_spelled l.body)
          → l.to ≡ union_of l.fn.to (cells_at e (covers (take l.index (runs_spelled l.body))));
    }
