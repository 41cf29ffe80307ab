-- The number is filed under the indexes of the run before this one.
use Rattle.std.proofs.Common.{◌≡◌, ◌-◌}
use Rattle.std.specs.List.{range_with_len}
use Rattle.sz_payload.specs.Owned.{with_cells}
use Rattle.sz_payload.proofs.owner.file_run.Given as goal

abbrev pub invariant-loop-index : goal.invariant-loop-index
invariant-loop-index l =
    l.files ≡ with_cells l.fn.files (range_with_len l.fn.run.first (l.index - l.fn.run.first)) l.number
