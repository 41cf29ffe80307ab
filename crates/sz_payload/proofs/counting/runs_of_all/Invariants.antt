-- The sum goes over the entries so far.
use Rattle.std.proofs.Common.{◌≡◌, ℕ, ◌<◌, ◌≤◌, ◌*◌, length, take, map, get_or}
use Rattle.std.specs.Prelude.{sum_by}
use Rattle.std.specs.Arc.{arc_value}
use Rattle.sz_frame.specs.Parts.{Entry}
use Rattle.sz_tables.specs.Rows.{runs_in}
use Rattle.sz_tables.specs.Stores.{cells_in}
use Rattle.sz_payload.proofs.counting.runs_of_all.Given as goal

abbrev pub invariant-loop-entry : goal.invariant-loop-entry
invariant-loop-entry l = record {
  runs : l.runs ≡ sum_by (λ e. runs_in e.out) (take l.entry-index (map (λ a. arc_value a) l.entries));
  few : l.runs ≤ l.entry-index * 1048576;
  cells : sum_by (λ e. cells_in e.out) (take l.entry-index (map (λ a. arc_value a) l.entries)) ≤ l.runs * 1048576;
  each : (n : ℕ) (d : Entry) → n < l.entry-index → n < length (map (λ a. arc_value a) l.entries)
      → let e = get_or (map (λ a. arc_value a) l.entries) n d in cells_in e.out ≤ runs_in e.out * 1048576;
}
