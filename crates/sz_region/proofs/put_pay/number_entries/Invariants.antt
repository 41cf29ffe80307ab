-- The entries before this one were numbered.
use Rattle.std.proofs.Common.{◌≡◌, length, map, take}
use Rattle.std.specs.Arc.{arc_value}
use Rattle.sz_region.specs.Putting.{AreEntriesNumbered}
use Rattle.sz_region.proofs.put_pay.number_entries.Given as goal

abbrev pub invariant-loop-entry : goal.invariant-loop-entry
invariant-loop-entry l = record {
  numbered : AreEntriesNumbered l.payloads.items l.sets.items l.names.items
      (map (λ e. arc_value e) (take l.entry-index l.entries));
  count : length l.sets.items ≡ l.entry-index;
}
