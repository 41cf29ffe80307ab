-- Each part knows of one cell more how it keeps it.
use Rattle.std.proofs.Common.{◌≡◌, ◌-◌, List, length, arith, ◌∙◌}
use Rattle.sz_cells.specs.declared.Cell.{Cell}
use Rattle.sz_frame.specs.declared.groups.Keeping.{Keeping}
use Rattle.sz_frame.specs.Written.{full_keeping, pay_keeping, comp_keeping, keepings}
use Rattle.sz_frame.proofs.Added.{cell-next}
use Rattle.sz_frame.proofs.Grouping.{keepings-length, keepings-next}
use Rattle.sz_frame.proofs.pieces.look.Goals as goal

pub loop-index-preserved : goal.loop-index-preserved
loop-index-preserved g c =
    let s = g.A.AtWork.site c.args.at.now in
    let inputs = g.A.AtWork.inputs c.args.at.now in
    let inv = c.loop-index.invariant in
    let low = inv.low in
    record {
      shape = inv.shape;
      low = omega arith;
      cell = cell-next s.out c.out-shape.result c.loop-index.index c.loop-index.cell c.cell_after-cell.result inv.shape
          inv.cell c.cell_after-cell.ensures;
      ticks = omega (arith, inv.ticks, c.tick.ensures);
      full = keepings-next s.out (full_keeping c.args.wanted.full s.op inputs) c.args.start c.loop-index.index
          c.loop-index.cell c.loop-index.full.items c.push.new.self.items c.full_keeping.result low
          inv.full inv.cell c.full_keeping.ensures c.in_ok-push.ensures.items;
      pay = keepings-next s.out (pay_keeping c.args.wanted.pay s.op inputs) c.args.start c.loop-index.index
          c.loop-index.cell c.loop-index.pay.items c.push-in-loop-index.new.self.items c.pay_keeping.result low
          inv.pay inv.cell c.pay_keeping.ensures c.in_ok-push-2.ensures.items;
      comp = keepings-next s.out (comp_keeping c.args.wanted.comp s.op inputs) c.args.start c.loop-index.index
          c.loop-index.cell c.loop-index.comp.items c.push-in-loop-index-2.new.self.items c.comp_keeping.result low
          inv.comp inv.cell c.comp_keeping.ensures c.in_ok-push-3.ensures.items;
    }

pub returns-clause-long : goal.returns-clause-long
returns-clause-long g c =
    let s = g.A.AtWork.site c.args.at.now in
    let inv = c.loop-index.invariant in
    let long : (keep : Cell → Keeping) (kept : List Keeping)
    → kept ≡ keepings s.out keep c.args.start (c.loop-index.index - c.args.start)
    → length kept ≡ c.args.end - c.args.start =
    λ keep kept is. keepings-length s.out keep c.args.start _ kept is ∙ omega arith in
    let inputs = g.A.AtWork.inputs c.args.at.now in (
      long (full_keeping c.args.wanted.full s.op inputs) c.loop-index.full.items inv.full,
      long (pay_keeping c.args.wanted.pay s.op inputs) c.loop-index.pay.items inv.pay,
      long (comp_keeping c.args.wanted.comp s.op inputs) c.loop-index.comp.items inv.comp,
    )
