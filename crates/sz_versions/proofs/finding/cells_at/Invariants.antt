-- The cells so far are the first that are named, and the shape has them.
use Rattle.std.proofs.Common.{◌≡◌, true, map, take}
use Rattle.std.specs.Prelude.{All}
use Rattle.sz_cells.specs.Extent.{holds}
use Rattle.sz_catalogue.specs.Starts.{cell_named}
use Rattle.sz_versions.proofs.finding.cells_at.Given as goal

abbrev pub invariant-loop-one : goal.invariant-loop-one
invariant-loop-one l = record {
  cells : l.cells.items ≡ map (cell_named l.shape) (take l.one-index l.named);
  held : All (λ c. holds l.shape c ≡ true) l.cells.items;
}
