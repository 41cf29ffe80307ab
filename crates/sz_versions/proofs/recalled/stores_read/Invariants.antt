-- What is kept so far is what was read of the first nodes.
use Rattle.std.proofs.Common.{◌≡◌, map, take}
use Rattle.sz_bodies.specs.Fitting.{lineages}
use Rattle.sz_versions.specs.Stores.{keeping_of, keeping_from}
use Rattle.sz_versions.proofs.recalled.stores_read.Given as goal

abbrev pub invariant-loop-node : goal.invariant-loop-node
invariant-loop-node l = map keeping_of l.stores.items ≡ map keeping_from (lineages (take l.node-index l.nodes))
