-- The cells to which the indexes of the run so far are linked are added.
use Rattle.std.proofs.Common.{◌≡◌, ◌-◌, map}
use Rattle.std.specs.List.{range_with_len}
use Rattle.sz_cells.specs.Cells.{with_those}
use Rattle.sz_core.specs.Links.{is_linked_from}
use Rattle.sz_core.proofs.index.add_run.Given as goal

abbrev pub invariant-loop-index : goal.invariant-loop-index
invariant-loop-index l =
    l.found ≡ with_those l.initial.found (is_linked_from (map (λ g. g.items) l.groups)
    (range_with_len l.fn.run.first (l.index - l.fn.run.first)) l.initial.found.extent)
