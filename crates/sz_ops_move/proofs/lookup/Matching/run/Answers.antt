-- What the table has for each number is the value of its cell.
use Rattle.std.proofs.Common.{◌≡◌, ℕ, List, Option, length, map, sym, ap, ap₂, ◌∙◌}
use Rattle.std.specs.Prelude.{ℤ}
use Rattle.std.specs.Arc.{arc_value}
use Rattle.sz_cells.specs.Extent.{Extent, size_of}
use Rattle.sz_spec.specs.Values.{Grid, input_at}
use Rattle.sz_ops_move.specs.Entries.{entry_of}
use Rattle.sz_ops_move.proofs.Copied.{looked-values}
use Rattle.sz_ops_move.proofs.lookup.Matching.run.Goals as goal

pub output_with-requires-clause-values : goal.output_with-requires-clause-values
output_with-requires-clause-values c =
    let s = c.args.self.now.at.now in
    let grids = map (λ a. arc_value a) c.args.self.now.inputs.now in
    let g = input_at grids 0 in
    let table = input_at grids 1 in
    let cols : c.cols.inside.cols ≡ table.extent.cols =
    ap (λ (e : Extent). e.cols) (c.cols.view_is ∙ c.shape.ensures)
    ∙ ap (λ (t : Grid). t.extent.cols) c.input-table.ensures.value in
    let entries = c.cells.ensures.values ∙ ap (λ (t : Grid). t.values) c.input-table.ensures.value in
    let numbers = c.cells-2.ensures.values ∙ ap (λ (t : Grid). t.values) c.input.ensures.value in
    let long : length g.values ≡ size_of g.extent =
    ap (λ (xs : List (Option ℤ)). length xs) (sym numbers) ∙ c.cells-2.ensures.count
    ∙ ap (λ (t : Grid). size_of t.extent) c.input.ensures.value in
    c.in_ok-cells.ensures
    ∙ ap (λ (xs : List (Option ℤ)). map (entry_of c.cols.inside.cols c.cells.result.now) xs) numbers
    ∙ ap₂ (λ (n : ℕ) (xs : List (Option ℤ)). map (entry_of n xs) g.values) cols entries
    ∙ looked-values s grids c.args.self.now.kind c.requires long
