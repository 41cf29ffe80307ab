-- Each cell has the number of what stands behind it by the region pairs before this one.
use Rattle.std.proofs.Common.{◌≡◌, map, take}
use Rattle.std.specs.Arc.{arc_value}
use Rattle.sz_merge.specs.Marks.{AreLabels}
use Rattle.sz_merge.proofs.marking.label_cells.Given as goal

abbrev pub invariant-loop-region : goal.invariant-loop-region
invariant-loop-region l = record {
  ins : l.lineages.ins ≡ l.initial.lineages.ins;
  labels : AreLabels l.fn.out l.initial.lineages.ins (take l.region-index (map (λ a. arc_value a) l.regions))
      l.labels.items l.lineages.lists;
}
