-- The cells so far are those of the first that are set, and the shape has them.
use Rattle.std.proofs.Common.{◌≡◌, true, map, take}
use Rattle.std.specs.Prelude.{All}
use Rattle.sz_cells.specs.Extent.{holds, cell_in}
use Rattle.sz_script.specs.declared.command.NewCell.{NewCell}
use Rattle.sz_versions.proofs.refreshing.cells_set.Given as goal

abbrev pub invariant-loop-one : goal.invariant-loop-one
invariant-loop-one l = record {
  cells : l.cells.items
      ≡ map (λ (x : NewCell). cell_in l.shape x.layer x.row x.col) (take l.one-index l.set);
  held : All (λ c. holds l.shape c ≡ true) l.cells.items;
}
