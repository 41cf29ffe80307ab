-- The bytes so far are how many base arrays there are, and those of the base arrays before the index.
use Rattle.std.proofs.Common.{◌≡◌, ◌++◌, length, map, take, All}
use Rattle.std.specs.List.{flat_map}
use Rattle.sz_cells.specs.SetBytes.{four_bytes}
use Rattle.sz_bodies.specs.Bodies.{base_bytes, IsShortBase}
use Rattle.sz_bodies.specs.Fitting.{named_base}
use Rattle.sz_bodies.proofs.writing.put_bases.Given as goal

abbrev pub invariant-loop-only : goal.invariant-loop-only
invariant-loop-only l = record {
  short : All IsShortBase (map named_base (take l.only-index l.base));
  bytes :
      l.to.items ≡ l.fn.to.items ++ (four_bytes (length l.base)
      ++ flat_map base_bytes (map named_base (take l.only-index l.base)));
}
