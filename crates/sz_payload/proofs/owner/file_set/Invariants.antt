-- The number is filed under the indexes of the runs before this one.
use Rattle.std.proofs.Common.{◌≡◌, take}
use Rattle.std.specs.List.{flat_map}
use Rattle.sz_cells.specs.Runs.{indexes_of}
use Rattle.sz_payload.specs.Owned.{with_cells}
use Rattle.sz_payload.proofs.owner.file_set.Given as goal

abbrev pub invariant-loop-run : goal.invariant-loop-run
invariant-loop-run l =
    l.files ≡ with_cells l.fn.files (flat_map indexes_of (take l.run-index l.run-items)) l.number
