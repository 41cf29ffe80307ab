-- The count so far is that of the cells of the runs so far.
use Rattle.std.proofs.Common.{◌≡◌, length, take}
use Rattle.std.specs.List.{flat_map}
use Rattle.sz_cells.specs.Runs.{indexes_of}
use Rattle.sz_tables.proofs.apart.cells_of_runs.Given as goal

abbrev pub invariant-loop-run : goal.invariant-loop-run
invariant-loop-run l = l.count ≡ length (flat_map indexes_of (take l.run-index l.runs))
