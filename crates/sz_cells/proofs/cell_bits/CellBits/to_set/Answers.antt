-- The longest runs of the bits that are 1 cover the indexes of the set.
use Rattle.std.proofs.Common.{ℕ, List, ap, ◌∙◌}
use Rattle.sz_cells.specs.Extent.{size_of}
use Rattle.sz_cells.specs.Cells.{Cells}
use Rattle.sz_cells.specs.Runs.{covers}
use Rattle.sz_cells.specs.Words.{has_bit}
use Rattle.sz_cells.proofs.Runs.{runs-filter}
use Rattle.sz_cells.proofs.Bitmaps.{cells_at-ext}
use Rattle.sz_cells.proofs.cell_bits.CellBits.to_set.Goals as goal

pub returns : goal.returns
returns c =
    let e = c.self.inside.shape in
    let words = c.self.inside.words.items in
    let runs = c.in_ok-runs.runs.items in
    let make : List ℕ → Cells = λ xs. record { extent = e; indexes = xs } in
    let said = rw c.deref.ensures.value at c.in_ok-runs.ensures in
    c.from_runs.ensures
    ∙ ap make (runs-filter (size_of e) runs (said.longest (size_of e) c.self.invariant.no_more))
    ∙ cells_at-ext e (covers runs) (has_bit words) (λ k below. said.covered k)
    ∙ c.self.view_is
