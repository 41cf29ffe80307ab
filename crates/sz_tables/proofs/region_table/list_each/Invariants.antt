-- The key idea: the sets of the arrays before the index are listed, and where those of each begin.
use Rattle.std.proofs.Common.{◌≡◌, ◌∷◌, take, map}
use Rattle.std.specs.List.{AllWithin}
use Rattle.sz_tables.specs.Tables.{SetsByNumber}
use Rattle.sz_tables.specs.Listing.{listed_sets, starts_from, AreSetsOf}
use Rattle.sz_tables.proofs.region_table.list_each.Given as goal

abbrev pub invariant-loop-array : goal.invariant-loop-array
invariant-loop-array l = record {
  sets : l.sets.items ≡ listed_sets 0 (map (λ (t : SetsByNumber). t.sets) (take l.array (l.outs ∷ l.ins)));
  starts : l.starts.items ≡ starts_from 0 (map (λ (t : SetsByNumber). t.sets) (take l.array (l.outs ∷ l.ins)));
  each : AllWithin (λ t. AreSetsOf t.extent t.sets) (l.outs ∷ l.ins) 0 l.array;
}
