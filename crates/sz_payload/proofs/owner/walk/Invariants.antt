-- No entry that is filed from the reach of the next place on has the cell, and the next place is one of the key.
use Rattle.std.proofs.Common.{◌≡◌, ℕ, ◌%◌, ◌<◌, true}
use Rattle.std.specs.List.{HoldsAt}
use Rattle.std.specs.Option.{IfSome}
use Rattle.sz_cells.specs.Cells.{has}
use Rattle.sz_cells.specs.Extent.{cell_of}
use Rattle.sz_tables.specs.Entries.{entries, entry_at}
use Rattle.sz_tables.proofs.Numbered.{reach}
use Rattle.sz_payload.proofs.owner.walk.Given as goal

abbrev pub invariant-loop-next : goal.invariant-loop-next
invariant-loop-next l = record {
  ahead : (place n : ℕ) → HoldsAt (λ e. (e.key ≡ l.key) × (e.item ≡ n)) l.files.entries place
      → has (entry_at (entries l.table) n).out (cell_of l.table.out l.index) ≡ true → place < reach l.next;
  key : l.key ≡ l.index % l.files.keys;
  filed : IfSome l.next (λ n. HoldsAt (λ e. e.key ≡ l.key) l.files.entries n);
}

abbrev pub decreases-loop-next : goal.decreases-loop-next
decreases-loop-next l = reach l.next
