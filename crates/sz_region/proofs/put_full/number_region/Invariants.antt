-- The output set and the sets of the inputs before this one were numbered.
use Rattle.std.proofs.Common.{◌≡◌, ◌∷◌, map, take}
use Rattle.std.specs.Arc.{arc_value}
use Rattle.sz_region.specs.FullBytes.{listed_from}
use Rattle.sz_region.specs.Putting.{AreNumbered}
use Rattle.sz_region.proofs.put_full.number_region.Given as goal

abbrev pub invariant-loop-set : goal.invariant-loop-set
invariant-loop-set l = record {
  items : map (λ s. arc_value s) l.set-items ≡ l.region.ins;
  array : l.array ≡ l.set-index;
  numbered : AreNumbered l.fn.sets.items l.sets.items l.fn.names.items l.names.items
      (record { array = 0; set = l.region.out } ∷ listed_from 1 (map (λ s. arc_value s)
      (take l.set-index l.set-items)));
}
