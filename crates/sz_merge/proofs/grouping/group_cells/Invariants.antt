-- The cells from this one on are told.
use Rattle.sz_merge.specs.Links.{AreTold}
use Rattle.sz_merge.proofs.grouping.group_cells.Given as goal

abbrev pub invariant-loop-index : goal.invariant-loop-index
invariant-loop-index l = AreTold l.labels l.fn.count l.index l.first.items l.next.items
