-- A set has an index at or after 0 exactly where it has one.
use Rattle.std.proofs.Common.{is_some, not, sym, ap, ◌∙◌}
use Rattle.std.proofs.lemmas.Bool.{not-false}
use Rattle.sz_cells.proofs.Bitmaps.{none-from_0}
use Rattle.sz_cells.proofs.cell_bits.CellBits.is_empty.Goals as goal

pub returns : goal.returns
returns c =
    let found = ap is_some (sym c.next_after.ensures) ∙ c.is_none.ensures in
    let none = none-from_0 c.args.self.now.indexes in (
      λ yes. none.0 (found ∙ ap not yes),
      λ empty. not-false c.is_none.result (sym found ∙ none.1 empty),
    )
