-- One entry more.
use Rattle.std.proofs.Common.{◌≡◌, ap, ◌∙◌, arith}
use Rattle.std.specs.Arc.{arc_value}
use Rattle.sz_frame.specs.Parts.{Entry}
use Rattle.sz_tables.specs.Stores.{cells_in}
use Rattle.sz_tables.proofs.Taking.{read-sum}
use Rattle.sz_payload.proofs.counting.cells_of_all.Goals as goal

pub loop-entry-preserved : goal.loop-entry-preserved
loop-entry-preserved c =
    let e = c.deref.result.now in
    let cells = read-sum (λ (x : Entry). cells_in x.out) (λ a. arc_value a) c.args.entries.now c.loop-entry.entry-index
    c.entry-item.result e c.loop-entry-test.true c.entry-item.is c.deref.ensures in
    let same : c.deref-in-loop-entry.result.now ≡ e.out =
    c.deref-in-loop-entry.ensures ∙ ap (λ (x : Entry). x.out) c.behind-entry.view_is in
    record {
      cells = omega (arith, c.loop-entry.invariant.cells, cells, c.count.ensures, ap cells_in same);
      few = omega (arith, c.loop-entry.invariant.few, c.count.ensures);
    }
