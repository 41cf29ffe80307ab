-- The bitmap has the cells of the entries before this one, and none of those is in two.
use Rattle.std.proofs.Common.{◌≡◌, map, take}
use Rattle.std.specs.Arc.{arc_value}
use Rattle.sz_cells.specs.declared.Cell.{Cell}
use Rattle.sz_cells.specs.Cells.{has}
use Rattle.sz_frame.specs.Fits.{AreApart}
use Rattle.sz_frame.specs.Stands.{has_entry}
use Rattle.sz_region.proofs.apart.are_apart.Given as goal

abbrev pub invariant-loop-entry : goal.invariant-loop-entry
invariant-loop-entry l = record {
  shape : l.seen.extent ≡ l.fn.out;
  seen : (o : Cell) → has l.seen o ≡ has_entry (map (λ e. arc_value e) (take l.entry-index l.entries)) o;
  apart : AreApart (map (λ e. arc_value e) (take l.entry-index l.entries));
}
