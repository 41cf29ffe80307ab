-- So many base arrays stand one behind the other, each as it is held.
use Rattle.std.proofs.Common.{◌≡◌, ◌+◌, length, map}
use Rattle.std.specs.List.{flat_map}
use Rattle.sz_region.specs.Counted.{IsAt}
use Rattle.sz_bodies.specs.Bodies.{base_bytes}
use Rattle.sz_bodies.specs.Fitting.{named_base}
use Rattle.sz_bodies.specs.Taking.{AreArrays}
use Rattle.sz_bodies.proofs.heads.take_bases.Given as goal

abbrev pub invariant-loop-index : goal.invariant-loop-index
invariant-loop-index l = record {
  count : length l.base.items ≡ l._index;
  each : AreArrays l.catalogue l.base.items;
  bytes : IsAt l.bytes (l.at + 4) l.place (flat_map base_bytes (map named_base l.base.items));
}
