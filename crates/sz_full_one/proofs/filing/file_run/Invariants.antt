-- The indexes of the run before this one have the item.
use Rattle.std.proofs.Common.{◌≡◌, ◌-◌}
use Rattle.std.specs.List.{range_with_len}
use Rattle.sz_full_one.specs.ByCells.{with_filed}
use Rattle.sz_full_one.proofs.filing.file_run.Given as goal

abbrev pub invariant-loop-index : goal.invariant-loop-index
invariant-loop-index l =
    l.files ≡ with_filed l.fn.files (range_with_len l.run.first (l.index - l.run.first)) l.item
