-- The sets so far stand in the tables of their arrays, at their places.
use Rattle.std.proofs.Common.{◌≡◌, ◌≤◌, List, ◌∷◌, length, map}
use Rattle.std.specs.List.{All, AllZip, flat_map}
use Rattle.sz_region.specs.Counted.{IsAt}
use Rattle.sz_region.specs.FullBytes.{Listed, IsListed, listed_bytes}
use Rattle.sz_tables.specs.Placing.{IsPlaced}
use Rattle.sz_tables.proofs.reading.take_each.Given as goal

abbrev pub invariant-loop-index : goal.invariant-loop-index
invariant-loop-index l = record {
  listed : List Listed;
  count : length listed ≡ l._index;
  each : All (IsListed l.out l.ins) listed;
  bytes : IsAt l.bytes l.at l.place (flat_map listed_bytes listed);
  placed : AllZip (IsPlaced (map (λ t. t.sets) (l.outs ∷ l.tables))) l.places.items listed;
  extents : map (λ t. t.extent) (l.outs ∷ l.tables) ≡ l.out ∷ l.ins;
  few : All (λ t. length t.sets ≤ l._index) (l.outs ∷ l.tables);
}
