-- The shapes so far are those of the base arrays so far.
use Rattle.std.proofs.Common.{◌≡◌, take}
use Rattle.sz_catalogue.specs.Holdings.{shapes_of}
use Rattle.sz_catalogue.specs.Starts.{bases_of}
use Rattle.sz_catalogue.proofs.catalogue.Catalogue.shapes_named.Given as goal

abbrev pub invariant-loop-only : goal.invariant-loop-only
invariant-loop-only l = l.shapes.items ≡ shapes_of (bases_of l.self (take l.only-index l.base))
