-- The cells to which the indexes of the runs so far are linked are added.
use Rattle.std.proofs.Common.{◌≡◌, map, take}
use Rattle.std.specs.List.{flat_map}
use Rattle.sz_cells.specs.Cells.{with_those}
use Rattle.sz_cells.specs.Runs.{indexes_of}
use Rattle.sz_core.specs.Links.{is_linked_from}
use Rattle.sz_core.proofs.index.add_runs.Given as goal

abbrev pub invariant-loop-run : goal.invariant-loop-run
invariant-loop-run l =
    l.found ≡ with_those l.initial.found (is_linked_from (map (λ g. g.items) l.groups)
    (flat_map indexes_of (take l.run-index l.runs)) l.initial.found.extent)
