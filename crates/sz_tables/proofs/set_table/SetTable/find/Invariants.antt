-- The key idea: the sets from the reach of the next entry on are others, and that entry is one of the key.
use Rattle.std.proofs.Common.{◌≡◌, ℕ, ◌%◌, ◌<◌, Some}
use Rattle.std.specs.List.{HoldsAt, slice_get}
use Rattle.std.specs.Option.{IfSome}
use Rattle.sz_tables.specs.Tables.{spelled}
use Rattle.sz_tables.proofs.Numbered.{reach}
use Rattle.sz_tables.proofs.set_table.SetTable.find.Given as goal

abbrev pub invariant-loop-next : goal.invariant-loop-next
invariant-loop-next l = record {
  ahead : (n : ℕ) → slice_get l.self.sets n ≡ Some (spelled l.self.extent l.runs) → n < reach l.next;
  key : l.key ≡ l.mix % l.self-inside.index.keys;
  filed : IfSome l.next (λ n. HoldsAt (λ e. e.key ≡ l.key) l.self-inside.index.entries n);
}

abbrev pub decreases-loop-next : goal.decreases-loop-next
decreases-loop-next l = reach l.next
