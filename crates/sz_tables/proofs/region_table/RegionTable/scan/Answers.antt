-- Each row in turn adds what it adds, and all rows add the image.
use Rattle.std.proofs.Common.{refl, arith}
use Rattle.sz_frame.proofs.Added.{own-at}
use Rattle.sz_tables.proofs.Scanned.{none-added, row-added, rows-added, nothing-seen}
use Rattle.sz_tables.proofs.region_table.RegionTable.scan.Goals as goal

pub loop-row-init : goal.loop-row-init
loop-row-init c = record {
  all = c.len-row-end.ensures.count;
  added =
      none-added c.args.dir c.args.self.now c.args.input c.args.from.now c.args.to.now
      (own-at c.args.to.now c.args.to.now.extent refl c.shape.ensures.rising);
  seen =
      nothing-seen c.args.dir c.args.input c.args.self.now c.args.from.now c.args.to.now c.nothing-seen.result
      c.nothing-seen.ensures;
}

pub loop-row-preserved : goal.loop-row-preserved
loop-row-preserved c = record {
  all = c.loop-row.invariant.all;
  added =
      row-added c.args.dir c.args.self.now c.args.input c.loop-row.row c.args.from.now c.args.to.now c.loop-row.to
      c.take_row.new.to (omega (arith, c.loop-row.invariant.all, c.loop-row-test.true)) c.loop-row.invariant.added
      c.take_row.ensures.to;
  seen = c.take_row.ensures.seen;
}

pub returns : goal.returns
returns c =
    rows-added c.args.dir c.args.self.now c.args.input c.loop-row.row c.args.from.now c.args.to.now c.loop-row.to
    c.requires.to (omega (arith, c.loop-row.invariant.all)) c.loop-row.invariant.added
