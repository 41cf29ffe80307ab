-- The cells of the indexes so far are added.
use Rattle.std.proofs.Common.{◌≡◌, take}
use Rattle.sz_cells.specs.Extent.{index_of}
use Rattle.sz_cells.specs.Cells.{with_those}
use Rattle.sz_core.specs.Links.{is_among}
use Rattle.sz_core.proofs.index.add_group.Given as goal

abbrev pub invariant-loop-index : goal.invariant-loop-index
invariant-loop-index l =
    l.found ≡ with_those l.initial.found
    (λ x. is_among (take l.index-index l.group) (index_of l.initial.found.extent x))
