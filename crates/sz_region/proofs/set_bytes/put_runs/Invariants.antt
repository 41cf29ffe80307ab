-- The bytes so far are those of the number of runs and of the runs before this one.
use Rattle.std.proofs.Common.{◌≡◌, ◌++◌, length, take}
use Rattle.std.specs.List.{flat_map}
use Rattle.sz_cells.specs.SetBytes.{four_bytes, run_bytes}
use Rattle.sz_region.proofs.set_bytes.put_runs.Given as goal

abbrev pub invariant-loop-run : goal.invariant-loop-run
invariant-loop-run l =
    l.to.items ≡ l.fn.to.items ++ (four_bytes (length l.runs) ++ flat_map run_bytes (take l.run-index l.runs))
