-- So many payloads stand one behind the other.
use Rattle.std.proofs.Common.{◌≡◌, ◌≤◌, ◌+◌, ℕ, List, length}
use Rattle.std.specs.List.{All, flat_map}
use Rattle.sz_region.specs.Counted.{IsAt}
use Rattle.sz_region.specs.PayBytes.{IsShort, payload_bytes}
use Rattle.sz_short.proofs.parts.payloads_end.Given as goal

abbrev pub invariant-loop-index : goal.invariant-loop-index
invariant-loop-index l = record {
  payloads : List (List ℕ);
  count : length payloads ≡ l._index;
  order : l.at ≤ l.place;
  each : All IsShort payloads;
  bytes : IsAt l.bytes (l.at + 4) l.place (flat_map payload_bytes payloads);
}
