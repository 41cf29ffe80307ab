-- The set's cells lie between its first and its last.
use Rattle.std.proofs.Common.{◌-◌, refl, ap, arith, length}
use Rattle.sz_cells.specs.declared.Run.{Run}
use Rattle.sz_cells.specs.Extent.{Extent, size_of}
use Rattle.sz_cells.proofs.Runs.{runs-at}
use Rattle.sz_tables.specs.Tables.{spelled}
use Rattle.sz_tables.proofs.Rounding.{cell-between}
use Rattle.sz_tables.proofs.sets.rows_of_runs.Goals as goal

pub cell_at-requires-2 : goal.cell_at-requires-2
cell_at-requires-2 c =
    let none : Run = record { first = 0; last = 0 } in
    let runs = c.args.runs.now in
    let at = runs-at 0 (size_of c.args.shape) runs (length runs - 1) none c.requires.longest (omega arith) in
    omega (arith, at.2)

pub returns : goal.returns
returns c cell there =
    let none : Run = record { first = 0; last = 0 } in
    let runs = c.args.runs.now in
    let between = cell-between (spelled c.args.shape runs) runs none c.cell_at.result c.cell_at-2.result cell
    (record { longest = c.requires.longest; spelled = refl }) c.requires.some c.cell_at.ensures.held
    c.cell_at-2.ensures.held c.cell_at.ensures.index c.cell_at-2.ensures.index there in
    let cols = ap (λ (e : Extent). e.cols) c.shape.view_is in
    (between.0, omega arith, between.1, omega (arith, between.2, cols))
