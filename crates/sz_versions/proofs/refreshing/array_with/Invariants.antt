-- The array so far has the first cells set.
use Rattle.std.proofs.Common.{◌≡◌, take}
use Rattle.sz_catalogue.specs.Refreshes.{with_cells}
use Rattle.sz_versions.proofs.refreshing.array_with.Given as goal

abbrev pub invariant-loop-one : goal.invariant-loop-one
invariant-loop-one l = record {
  shape : l.shape ≡ l.array.extent;
  set : with_cells l.array (take l.one-index l.set) ≡ record { extent = l.shape; values = l.cells.items };
}
