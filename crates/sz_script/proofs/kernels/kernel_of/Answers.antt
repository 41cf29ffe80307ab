-- A row that is no list of whole numbers ends the walk.
use Rattle.std.proofs.Common.{◌≡◌, [], length, arith, ◌∙◌, sym, ap, map, Bool, Some}
use Rattle.serde_json.specs.View.{view}
use Rattle.sz_script.specs.Fields.{only_if}
use Rattle.sz_script.specs.Kernels.{is_row_of_wholes, kernel_of, weights_of}
use Rattle.sz_script.proofs.Walks.{walked_bad, walked_passed, walked_given}
use Rattle.sz_script.proofs.KernelsRead.{kernel_made}
use Rattle.sz_script.proofs.kernels.kernel_of.Goals as goal

pub returns-then-not-branch : goal.returns-then-not-branch
returns-then-not-branch c =
    sym (ap (λ (b : Bool). only_if b (Some (kernel_of (map view c.args.rows.now))))
    (walked_bad is_row_of_wholes c.args.rows.now c.loop-row.row-index c.row-item.result c.loop-row-test.true
    c.row-item.is (sym c.in_ok-push_weights.ensures.tested ∙ c.if-not-branch.true)))

pub returns : goal.returns
returns c =
    let end : c.loop-row.row-index ≡ length c.args.rows.now = omega arith in
    ap Some c.make.ensures ∙ kernel_made c.args.rows.now _ _ _
    (walked_passed is_row_of_wholes weights_of c.args.rows.now c.loop-row.row-index [] c.loop-row.weights.items end
    c.loop-row.invariant)
    c.side_of.ensures c.cols_of.ensures
    (walked_given is_row_of_wholes weights_of c.args.rows.now c.loop-row.row-index [] c.loop-row.weights.items end
    c.loop-row.invariant)
