-- One rectangle more.
use Rattle.std.proofs.Common.{◌+◌, length, take, ap, sym, subst, arith}
use Rattle.std.proofs.lemmas.List.{length_push}
use Rattle.sz_tables.specs.Rows.{pairings}
use Rattle.sz_full_many.specs.Indexed.{AreRound}
use Rattle.sz_full_many.proofs.Filing.{rows-push}
use Rattle.sz_full_many.proofs.bounds.tree_of.Goals as goal

pub loop-row-preserved : goal.loop-row-preserved
loop-row-preserved c =
    let inv = c.loop-row.invariant in
    let t = c.args.table.now in
    let more = c.push_reserved.ensures.items in
    record {
      count = omega (arith, ap length more, length_push c.loop-row.rectangles.items c.row_bounds.result, inv.count);
      capacity = omega (arith, c.push_reserved.ensures.capacity, inv.capacity);
      round =
          subst (AreRound c.args.dir c.args.input (take (c.loop-row.row + 1) (pairings t))) (sym more)
          (rows-push c.args.dir c.args.input c.loop-row.row t c.loop-row.rectangles.items c.row_bounds.result
          (omega (arith, c.loop-row-test.true)) inv.round c.row_bounds.ensures);
    }
