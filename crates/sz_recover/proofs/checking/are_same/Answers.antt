-- Two sets are one where their longest runs are.
use Rattle.std.proofs.Common.{◌≡◌, sym, ap, ◌∙◌}
use Rattle.std.proofs.lemmas.Slice.Eq.{slice_eq-Decides}
use Rattle.sz_cells.specs.Extent.{Extent}
use Rattle.sz_cells.specs.Cells.{Cells}
use Rattle.sz_recover.proofs.Comparing.{run-decides, sets-decided, decides-by}
use Rattle.sz_recover.proofs.checking.are_same.Goals as goal

pub returns : goal.returns
returns c =
    let left = c.in_ok-left.left in
    let right = c.in_ok-right.right in
    let runs = slice_eq-Decides run-decides c.runs.result.now c.runs-2.result.now c.eq.result c.eq.ensures in
    let extent : Cells → Extent = λ x. x.extent in
    let shape : left.extent ≡ right.extent =
    ap extent c.in_ok-left.ensures ∙ c.requires ∙ sym (ap extent c.in_ok-right.ensures) in
    decides-by c.eq.result left right c.args.a.now c.args.b.now c.in_ok-left.ensures c.in_ok-right.ensures
    (sets-decided c.eq.result left right c.runs.result.now c.runs-2.result.now shape c.runs.ensures.spelled
    c.runs-2.ensures.spelled c.runs.ensures.only c.runs-2.ensures.only runs)
