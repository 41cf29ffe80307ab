-- No bit of the words is 1 any more.
use Rattle.std.proofs.Common.{ap, ◌∙◌, arith}
use Rattle.std.proofs.lemmas.List.{with_items_is}
use Rattle.sz_cells.specs.Cells.{Cells, no_cells}
use Rattle.sz_cells.specs.Words.{has_bit}
use Rattle.sz_cells.proofs.Bitmaps.{cells_at-none}
use Rattle.sz_cells.proofs.cell_bits.CellBits.clear.Goals as goal

pub returns : goal.returns
returns c =
    let items = with_items_is c.self.inside.words c.clear_words.new.words (omega (arith, c.deref_mut.ensures.len)) in
    cells_at-none c.self.inside.shape (has_bit _) (λ k below. rw items (c.clear_words.ensures k))
    ∙ ap (λ (a : Cells). no_cells a.extent) c.self.view_is
