-- The stores so far are those of the first nodes.
use Rattle.std.proofs.Common.{◌≡◌, map, take}
use Rattle.sz_bodies.specs.Fitting.{lineages}
use Rattle.sz_versions.specs.Bodies.{store_in}
use Rattle.sz_versions.specs.Stores.{keeping_of}
use Rattle.sz_versions.proofs.bodies.stores_of.Given as goal

abbrev pub invariant-loop-one : goal.invariant-loop-one
invariant-loop-one l = lineages l.stores.items ≡ map store_in (map keeping_of (take l.one-index l.one-items))
