-- The slice holds the values of the row between the columns.
use Rattle.std.proofs.Common.{◌≡◌, ℕ, ◌+◌, ◌-◌, ◌*◌, ◌++◌, List, length, take, drop, ap, ap₂, sym, ◌∙◌, arith}
use Rattle.std.specs.Prelude.{ℤ, Option}
use Rattle.sz_cells.specs.Extent.{Extent, size_of}
use Rattle.sz_frame.specs.Folding.{summary_of, numbers_in}
use Rattle.sz_frame.proofs.FoldedCells.{numbers-row}
use Rattle.sz_ops_local.proofs.window.fold_row.Goals as goal

pub returns : goal.returns
returns c = λ zs seen.
    let g = c.args.input.now in
    let whole : length g.values ≡ size_of g.extent =
    ap (λ (xs : List (Option ℤ)). length xs) (sym c.cells.ensures.values) ∙ c.cells.ensures.count in
    let start : c.index-start.result ≡ c.args.row * g.extent.cols + c.args.left =
    c.index-start.ensures.value ∙ ap (λ (e : Extent). c.args.row * e.cols + c.args.left) c.shape.ensures in
    let long : (c.index-start.result + (c.args.right - c.args.left)) - c.index-start.result
    ≡ c.args.right - c.args.left =
    omega arith in
    c.add_all.ensures zs seen
    ∙ ap (λ ys. summary_of (zs ++ ys))
    (ap (λ (n : ℕ). numbers_in (take n (drop c.index-start.result c.cells.result.now))) long
    ∙ ap₂ (λ (n : ℕ) (vs : List (Option ℤ)). numbers_in (take (c.args.right - c.args.left) (drop n vs))) start
    c.cells.ensures.values
    ∙ sym (numbers-row g c.args.row c.args.left c.args.right whole c.requires.row c.requires.cols c.requires.right))
