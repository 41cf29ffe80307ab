-- The rows of all cells are the layer.
use Rattle.std.proofs.Common.{arith, ◌≡◌, ℕ, ap, ◌∙◌, subst}
use Rattle.std.specs.List.{flat_map}
use Rattle.serde_json.specs.View.{view}
use Rattle.sz_script.specs.Layers.{is_row, values_of_row}
use Rattle.sz_writing.specs.Written.{IsWritten, row_long}
use Rattle.sz_writing.proofs.Walks.{walk-more, walk-given, items-made, list-made}
use Rattle.sz_writing.proofs.cells.layer_of.Goals as goal

pub loop-row-preserved : goal.loop-row-preserved
loop-row-preserved c =
    walk-more (is_row c.args.width) values_of_row 1 (row_long c.args.width) c.args.width c.loop-row.rows.items _
    c.loop-row._row c.loop-row.rest.now c.args.cells.now c.in_ok-row_of.field-0 c.split_at.result.0.now
    c.split_at.result.1.now c.loop-row.invariant c.in_ok-push.ensures.items
    (subst (λ (n : ℕ). IsWritten (is_row n) 1 (row_long n) (view c.in_ok-row_of.field-0)) c.split_at.ensures.front_len
    c.in_ok-row_of.ensures.written)
    c.in_ok-row_of.ensures.given c.split_at.ensures.by_index.0 c.split_at.ensures.front_len

pub returns-clause-written : goal.returns-clause-written
returns-clause-written c =
    let end : c.loop-row._row ≡ c.args.height = omega arith in
    list-made (is_row c.args.width) values_of_row 1 (row_long c.args.width) c.args.width c.args.height c.loop-row.rows
    c.loop-row._row c.loop-row.rest.now c.args.cells.now end c.loop-row.invariant

pub returns-clause-given : goal.returns-clause-given
returns-clause-given c =
    let end : c.loop-row._row ≡ c.args.height = omega arith in
    ap (flat_map values_of_row) (items-made c.loop-row.rows)
    ∙ walk-given (is_row c.args.width) values_of_row 1 (row_long c.args.width) c.args.width c.args.height
    c.loop-row.rows.items c.loop-row._row c.loop-row.rest.now c.args.cells.now end c.requires c.loop-row.invariant
