-- The bit of the index is the test of the filter.
use Rattle.std.proofs.Common.{◌<◌, ◌/◌, length, sym, subst, ap, ◌∙◌, arith}
use Rattle.std.proofs.lemmas.List.{get_or_read}
use Rattle.sz_cells.specs.Extent.{Extent, size_of}
use Rattle.sz_cells.specs.Cells.{Cells}
use Rattle.sz_cells.specs.Words.{has_bit}
use Rattle.sz_cells.proofs.Bitmaps.{bit-test, any-cells_at}
use Rattle.sz_cells.proofs.cell_bits.CellBits.has_index.Goals as goal

pub returns : goal.returns
returns c =
    let words = c.self.inside.words.items in
    let below = subst (λ (e : Extent). c.args.index < size_of e) (sym (ap (λ (a : Cells). a.extent) c.self.view_is))
    c.requires in
    let inside : c.args.index / 64 < length words = omega (arith, c.self.invariant.enough) in
    bit-test words c.args.index c.index.result.now (get_or_read words (c.args.index / 64) c.index.result.now inside
    c.index.ensures 0)
    ∙ (rw (← c.self.view_is) (sym (any-cells_at c.self.inside.shape (has_bit words) c.args.index below)))
