-- The sum goes over the entries so far.
use Rattle.std.proofs.Common.{◌≡◌, ◌≤◌, ◌*◌, length, take, map}
use Rattle.std.specs.Prelude.{sum_by}
use Rattle.std.specs.Arc.{arc_value}
use Rattle.sz_payload.proofs.counting.bytes_of_all.Given as goal

abbrev pub invariant-loop-entry : goal.invariant-loop-entry
invariant-loop-entry l = record {
  bytes : l.bytes ≡ sum_by (λ e. length e.payload) (take l.entry-index (map (λ a. arc_value a) l.entries));
  few : l.bytes ≤ l.entry-index * 4294967296;
}
