-- The sum goes over the entries so far.
use Rattle.std.proofs.Common.{◌≡◌, ◌≤◌, ◌*◌, take, map}
use Rattle.std.specs.Prelude.{sum_by}
use Rattle.std.specs.Arc.{arc_value}
use Rattle.sz_tables.specs.Stores.{cells_in}
use Rattle.sz_payload.proofs.counting.cells_of_all.Given as goal

abbrev pub invariant-loop-entry : goal.invariant-loop-entry
invariant-loop-entry l = record {
  cells : l.cells ≡ sum_by (λ e. cells_in e.out) (take l.entry-index (map (λ a. arc_value a) l.entries));
  few : l.cells ≤ l.entry-index * 4294967296;
}
