-- Those so far are carried of the versions of the first entries.
use Rattle.std.proofs.Common.{◌≡◌, true, map, take, length}
use Rattle.std.specs.Prelude.{All}
use Rattle.sz_versions.specs.Residents.{IsResident, kept_of}
use Rattle.sz_versions.proofs.recalled.recall_each.Given as goal

abbrev pub invariant-loop-at : goal.invariant-loop-at
invariant-loop-at l = record {
  end : l.count ≡ length l.stores.items;
  own : All (IsResident l.catalogue) l.recalled.items;
  logged : All (λ r. r.logged ≡ true) l.recalled.items;
  kept : map kept_of l.recalled.items ≡ take l.at l.stores.items;
}
