-- The payloads so far stand in the table under their numbers, and the table has no others.
use Rattle.std.proofs.Common.{◌≡◌, ℕ, ◌+◌, ◌≤◌, List, length}
use Rattle.std.specs.List.{All, AllZip, flat_map}
use Rattle.sz_region.specs.Counted.{IsAt}
use Rattle.sz_region.specs.PayBytes.{IsShort, payload_bytes}
use Rattle.sz_tables.specs.Listed.{HasNumber, IsOneOf}
use Rattle.sz_tables.proofs.entry_reading.take_payloads.Given as goal

abbrev pub invariant-loop-index : goal.invariant-loop-index
invariant-loop-index l = record {
  listed : List (List ℕ);
  count : length listed ≡ l._index;
  each : All IsShort listed;
  bytes : IsAt l.bytes (l.at + 4) l.place (flat_map payload_bytes listed);
  numbered : AllZip (HasNumber l.table.payloads) l.numbers.items listed;
  own : All (IsOneOf listed) l.table.payloads;
  few : length l.table.payloads ≤ l._index;
}
