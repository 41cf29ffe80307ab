-- Each row's numbers come behind those of the rows before it.
use Rattle.std.proofs.Common.{◌≡◌, ◌<◌, true, subst, sym, ap, ◌∙◌, arith}
use Rattle.sz_cells.specs.Extent.{Extent, is_extent}
use Rattle.sz_cells.specs.Cells.{cells_where}
use Rattle.sz_cells.proofs.Shapes.{sides}
use Rattle.sz_spec.specs.Values.{numbers_at}
use Rattle.sz_spec.specs.Operators.Folds.{fold_of}
use Rattle.sz_frame.specs.Folding.{Summary, summary_of}
use Rattle.sz_frame.proofs.FoldedCells.{numbers-few}
use Rattle.sz_ops_local.specs.Windows.{is_between}
use Rattle.sz_ops_local.proofs.WindowCells.{numbers-first, numbers-next}
use Rattle.sz_ops_local.proofs.window.fold.Goals as goal

pub fold_row-requires-clause-room : goal.fold_row-requires-clause-room
fold_row-requires-clause-room c =
    let g = c.args.input.now in
    let w = c.args.window in
    let right : is_extent g.extent ≡ true =
    subst (λ (e : Extent). is_extent e ≡ true) c.shape-shape.ensures c.a_shape_is_within_limits.ensures in
    let few = numbers-few g (is_between w.top c.loop-row.row w.left w.right) in
    let count = ap (λ (s : Summary). s.count) c.loop-row.invariant in
    let most = (sides g.extent right).5 in
    omega (arith, few, count, most)

pub loop-row-init : goal.loop-row-init
loop-row-init c =
    let w = c.args.window in
    c.new-folding.ensures ∙ sym (ap summary_of (numbers-first c.args.input.now w.top w.left w.right))

pub loop-row-preserved : goal.loop-row-preserved
loop-row-preserved c =
    let g = c.args.input.now in
    let w = c.args.window in
    let some : 0 < g.extent.cols = omega (arith, c.requires.cols, c.requires.right) in
    c.fold_row.ensures (numbers_at g (cells_where g.extent (is_between w.top c.loop-row.row w.left w.right)))
    c.loop-row.invariant
    ∙ ap summary_of
    (numbers-next g w.top c.loop-row.row w.left w.right some c.loop-row.auto.row
    (omega (arith, c.loop-row-test.true, c.requires.bottom)))

pub returns : goal.returns
returns c =
    let g = c.args.input.now in
    let w = c.args.window in
    let last : c.loop-row.row ≡ w.bottom = omega (arith, c.requires.rows) in
    c.result.ensures (numbers_at g (cells_where g.extent (is_between w.top c.loop-row.row w.left w.right)))
    c.loop-row.invariant
    ∙ ap (λ n. fold_of c.args.fold (numbers_at g (cells_where g.extent (is_between w.top n w.left w.right)))) last
