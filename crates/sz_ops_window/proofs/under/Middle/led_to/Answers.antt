-- A tap leads to the cell of a place, or to none.
use Rattle.std.proofs.Common.{◌≡◌, rules, sym, ap, ◌∙◌, arith}
use Rattle.sz_spec.specs.Weights.{Weights}
use Rattle.sz_frame.proofs.Places.{found, found-held, are-small, own-place}
use Rattle.sz_ops_window.proofs.Taps.{leads-at, used-some}
use Rattle.sz_ops_window.proofs.under.Middle.led_to.Goals as goal

pub moved-requires-clause-start : goal.moved-requires-clause-start
moved-requires-clause-start c =
    let m = c.args.self.now in
    let right = c.a_shape_is_within_limits.ensures in
    let small = are-small m.shape right in
    let here = own-place m.shape m.cell right m.held in
    omega (arith, small.height, here.1, m.row_is)

pub moved-requires-2-clause-start : goal.moved-requires-2-clause-start
moved-requires-2-clause-start c =
    let m = c.args.self.now in
    let right = c.a_shape_is_within_limits.ensures in
    let small = are-small m.shape right in
    let here = own-place m.shape m.cell right m.held in
    omega (arith, small.cols, here.2)

pub returns-clause-held : goal.returns-clause-held
returns-clause-held c =
    let m = c.args.self.now in
    found-held m.shape m.layer c.in_ok-row.row c.in_ok-col.col c.cell_in.result c.a_shape_is_within_limits.ensures
    c.cell_in.ensures

pub returns-clause-only : goal.returns-clause-only
returns-clause-only c =
    let m = c.args.self.now in
    let w = c.args.mask.now in
    let cols : c.mask.inside.cols ≡ w.cols = ap (λ (v : Weights). v.cols) c.mask.view_is in
    let rows : c.mask.inside.rows ≡ w.rows = ap (λ (v : Weights). v.rows) c.mask.view_is in
    leads-at c.args.dir m.shape w m.cell c.args.number c.in_ok-row.row c.in_ok-col.col c.cell_in.result
    (used-some w c.args.number c.is_used.result c.is_used.ensures (search rules))
    ((rw (← m.row_is, ← cols, ← rows) (sym c.moved.ensures ∙ c.in_ok-row.was)))
    ((rw (← cols) (sym c.moved-2.ensures ∙ c.in_ok-col.was)))
    (rw (← m.layer_is) (found m.shape m.layer c.in_ok-row.row c.in_ok-col.col c.cell_in.result
    c.a_shape_is_within_limits.ensures c.cell_in.ensures))
