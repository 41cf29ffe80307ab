-- The base arrays so far are those that are held of the names so far.
use Rattle.std.proofs.Common.{◌≡◌, take}
use Rattle.sz_catalogue.specs.Starts.{bases_of}
use Rattle.sz_catalogue.proofs.catalogue.Catalogue.arrays_named.Given as goal

abbrev pub invariant-loop-only : goal.invariant-loop-only
invariant-loop-only l = l.arrays.items ≡ bases_of l.self (take l.only-index l.base)
