-- The sets of the cell from the next one on were handled, and what the last of them adds is there.
use Rattle.sz_spec.specs.declared.modes.Dir.TheVariants.{Forward}
use Rattle.sz_full_one.specs.ByCells.{adds, IsDone}
use Rattle.sz_full_one.proofs.Entries.{Walked, reached}
use Rattle.sz_full_one.proofs.looking.look_forward.Given as goal

abbrev pub invariant-loop-next : goal.invariant-loop-next
invariant-loop-next l = record {
  walked : Walked l.files.cells.entries l.cell (adds l.table Forward l.input) l.fn.to l.to l.next;
  done : IsDone (adds l.table Forward l.input) l.done l.to;
}

abbrev pub decreases-loop-next : goal.decreases-loop-next
decreases-loop-next l = reached l.next
