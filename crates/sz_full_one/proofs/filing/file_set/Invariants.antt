-- The indexes of the runs before this one have the item.
use Rattle.std.proofs.Common.{◌≡◌, take}
use Rattle.std.specs.List.{flat_map}
use Rattle.sz_cells.specs.Runs.{indexes_of}
use Rattle.sz_full_one.specs.ByCells.{with_filed}
use Rattle.sz_full_one.proofs.filing.file_set.Given as goal

abbrev pub invariant-loop-run : goal.invariant-loop-run
invariant-loop-run l =
    l.files ≡ with_filed l.fn.files (flat_map indexes_of (take l.run-index l.run-items)) l.item
