-- The bytes of the sets before this one stand behind those that were there.
use Rattle.std.proofs.Common.{◌≡◌, ◌++◌, map, take, All}
use Rattle.std.specs.Arc.{arc_value}
use Rattle.sz_cells.specs.SetBytes.{IsSetOf}
use Rattle.sz_merge.specs.Lineages.{spelling}
use Rattle.sz_merge.proofs.lineages.put_sets.Given as goal

abbrev pub invariant-loop-set : goal.invariant-loop-set
invariant-loop-set l = record {
  put : l.to.items ≡ l.initial.to.items ++ spelling (take l.set-index (map (λ a. arc_value a) l.sets));
  right : All (λ s. IsSetOf s.extent s) (take l.set-index (map (λ a. arc_value a) l.sets));
}
