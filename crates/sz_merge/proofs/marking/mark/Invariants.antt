-- The cells of the runs before this one are marked.
use Rattle.std.proofs.Common.{◌≡◌, take}
use Rattle.sz_cells.specs.Runs.{covers, runs_of}
use Rattle.sz_merge.specs.Marks.{AreMarked, IsNext, AreNumbers}
use Rattle.sz_merge.proofs.marking.mark.Given as goal

abbrev pub invariant-loop-run : goal.invariant-loop-run
invariant-loop-run l = record {
  ins : l.lineages.ins ≡ l.fn.lineages.ins;
  marked : AreMarked l.fn.lineages.ins l.region (covers (take l.run-index (runs_of l.region.out.indexes)))
      l.initial.labels.items l.labels.items l.fn.lineages.lists l.lineages.lists;
  last : IsNext l.fn.lineages.ins l.region l.lineages.lists l.last.from l.last.to;
  numbers : AreNumbers l.labels.items l.lineages.lists;
}
