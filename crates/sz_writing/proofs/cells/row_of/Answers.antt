-- The values of all cells are the row.
use Rattle.std.proofs.Common.{arith, ◌≡◌, [], ◌∷◌, None, length, map, drop, ap, ◌∙◌, sym, ◌*◌}
use Rattle.std.proofs.lemmas.List.Concat.{flat_map_single}
use Rattle.serde_json.specs.View.{view}
use Rattle.sz_script.specs.Layers.{is_value, value_of}
use Rattle.sz_writing.specs.Written.{value_long}
use Rattle.sz_writing.proofs.Walks.{walk-cell, walk-given, items-made, list-made}
use Rattle.sz_writing.proofs.cells.row_of.Goals as goal

pub loop-cell-preserved : goal.loop-cell-preserved
loop-cell-preserved c =
    walk-cell is_value value_of 0 value_long c.loop-cell.items.items _ c.loop-cell.cell-index c.args.cells.now
    c.value_of.result None c.loop-cell-test.true c.loop-cell.invariant c.in_ok-push.ensures.items
    c.value_of.ensures.written c.value_of.ensures.given

pub returns-clause-written : goal.returns-clause-written
returns-clause-written c =
    let end : c.loop-cell.cell-index ≡ length c.args.cells.now = omega arith in
    list-made is_value (λ d. value_of d ∷ []) 0 value_long 1 (length c.args.cells.now) c.loop-cell.items
    c.loop-cell.cell-index (drop c.loop-cell.cell-index c.args.cells.now) c.args.cells.now end c.loop-cell.invariant

pub returns-clause-given : goal.returns-clause-given
returns-clause-given c =
    let end : c.loop-cell.cell-index ≡ length c.args.cells.now = omega arith in
    let each : length c.args.cells.now ≡ length c.args.cells.now * 1 = omega arith in
    ap (map value_of) (items-made c.loop-cell.items)
    ∙ sym (flat_map_single value_of (map view c.loop-cell.items.items))
    ∙ walk-given is_value (λ d. value_of d ∷ []) 0 value_long 1 (length c.args.cells.now) c.loop-cell.items.items
    c.loop-cell.cell-index (drop c.loop-cell.cell-index c.args.cells.now) c.args.cells.now end each
    c.loop-cell.invariant
