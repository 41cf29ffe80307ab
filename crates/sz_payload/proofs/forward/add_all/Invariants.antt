-- What was added so far: the cells of the runs before this one.
use Rattle.std.proofs.Common.{◌≡◌, take}
use Rattle.sz_cells.specs.Cells.{union_of}
use Rattle.sz_cells.specs.Runs.{covers}
use Rattle.sz_cells.specs.Words.{cells_at}
use Rattle.sz_payload.proofs.forward.add_all.Given as goal

abbrev pub invariant-loop-run : goal.invariant-loop-run
invariant-loop-run l = l.to ≡ union_of l.fn.to (cells_at l.fn.to.extent (covers (take l.run-index l.runs)))
