-- The index's word and place have one bit, which is that of the cell.
use Rattle.std.proofs.Common.{ℕ, ◌≡◌, ◌/◌, ◌*◌, ◌%◌, ◌^◌, ◌==◌, ap, ◌∙◌}
use Rattle.std.proofs.Common.{arith, ne_eqb}
use Rattle.sz_cells.specs.Extent.{index_of, size_of}
use Rattle.sz_cells.specs.Cells.{Cells}
use Rattle.sz_cells.specs.Words.{is_in_word}
use Rattle.sz_cells.proofs.Bitmaps.{single-in_word, with_cell-at}
use Rattle.sz_cells.proofs.cell_bits.CellBits.set.Goals as goal

pub add_word-requires-clause-held : goal.add_word-requires-clause-held
add_word-requires-clause-held c =
    let size = ap (λ (a : Cells). size_of a.extent) c.self.view_is in
    λ k past. single-in_word c.index-index.result k ∙ ne_eqb k c.index-index.result
    (λ same. omega (arith, c.index-index.ensures.within, size))

pub returns : goal.returns
returns c =
    let i = c.index-index.result in
    let at : i ≡ index_of c.args.self.now.extent c.args.cell = c.index-index.ensures.value
    ∙ ap (λ (a : Cells). index_of a.extent c.args.cell) c.self.view_is in
    c.add_word.ensures
    ∙ with_cell-at c.args.self.now c.args.cell (is_in_word (i / 64) (1 * 2 ^ (i % 64) % 2 ^ 64)) c.requires
    (λ k. single-in_word i k ∙ ap (λ (n : ℕ). k == n) at)
