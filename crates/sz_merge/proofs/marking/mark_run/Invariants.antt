-- The cells of the run before this one are marked.
use Rattle.std.proofs.Common.{◌≡◌, ◌&&◌, nat_le, nat_lt}
use Rattle.sz_merge.specs.Marks.{AreMarked, IsNext, AreNumbers}
use Rattle.sz_merge.proofs.marking.mark_run.Given as goal

abbrev pub invariant-loop-index : goal.invariant-loop-index
invariant-loop-index l = record {
  ins : l.lineages.ins ≡ l.initial.lineages.ins;
  marked : AreMarked l.initial.lineages.ins l.region (λ k. nat_le l.fn.run.first k && nat_lt k l.index)
      l.initial.labels.items l.labels.items l.initial.lineages.lists l.lineages.lists;
  last : IsNext l.initial.lineages.ins l.region l.lineages.lists l.last.from l.last.to;
  numbers : AreNumbers l.labels.items l.lineages.lists;
}
