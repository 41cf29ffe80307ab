-- Each row whose rectangle overlaps adds what it adds, and those between add nothing.
use Rattle.std.proofs.Common.{◌≡◌, length, refl, ap, ◌∙◌, arith}
use Rattle.std.proofs.lemmas.List.{length-map}
use Rattle.sz_frame.proofs.Added.{own-at}
use Rattle.sz_tables.specs.Rows.{pairings, pairing_of}
use Rattle.sz_tables.proofs.Scanned.{none-added, row-added, rows-added, nothing-seen}
use Rattle.sz_full_many.proofs.Looked.{passed-over, round-long}
use Rattle.sz_full_many.proofs.looking.look_within.Goals as goal

pub loop-start-init : goal.loop-start-init
loop-start-init c = record {
  all = c.len-end.ensures.count;
  below = omega arith;
  added =
      none-added c.args.dir c.args.table.now c.args.input c.args.from.now c.args.to.now
      (own-at c.args.to.now c.args.to.now.extent refl c.shape.ensures.rising);
  seen =
      nothing-seen c.args.dir c.args.input c.args.table.now c.args.from.now c.args.to.now c.nothing-seen.result
      c.nothing-seen.ensures;
}

pub take_row-requires-clause-row : goal.take_row-requires-clause-row
take_row-requires-clause-row c =
    let t = c.args.table.now in
    let many = length-map t.rows (pairing_of t.outs t.sets) in
    let long = round-long c.args.dir c.args.input (pairings t) c.args.tree.now.rectangles c.requires.round in
    omega (arith, many, long, c.in-Some.ensures.hit.1)

pub loop-start-preserved-in-Some : goal.loop-start-preserved-in-Some
loop-start-preserved-in-Some c =
    let t = c.args.table.now in
    let from = c.args.from.now in
    let inv = c.loop-start.invariant in
    let hit = c.in-Some.ensures.hit in
    let many = length-map t.rows (pairing_of t.outs t.sets) in
    let long = round-long c.args.dir c.args.input (pairings t) c.args.tree.now.rectangles c.requires.round in
    record {
      all = inv.all;
      below = omega (arith, many, long, hit.1, inv.all);
      added =
          row-added c.args.dir t c.args.input c.in-Some.row from c.args.to.now c.loop-start.to c.take_row.new.to
          (omega (arith, many, long, hit.1))
          (passed-over c.args.dir c.args.input from c.args.to.now c.loop-start.to
          (pairings t) c.args.tree.now.rectangles
          c.args.bounds c.loop-start.start c.in-Some.row (own-at from from.extent refl c.shape-2.ensures.rising)
          c.requires.round c.requires.bounds hit.0 (omega (arith, long, hit.1)) hit.3 inv.added)
          c.take_row.ensures.to;
      seen = c.take_row.ensures.seen;
    }

pub loop-start-preserved : goal.loop-start-preserved
loop-start-preserved c =
    let t = c.args.table.now in
    let from = c.args.from.now in
    let inv = c.loop-start.invariant in
    let many = length-map t.rows (pairing_of t.outs t.sets) in
    let long = round-long c.args.dir c.args.input (pairings t) c.args.tree.now.rectangles c.requires.round in
    record {
      all = inv.all;
      below = omega arith;
      added =
          passed-over c.args.dir c.args.input from c.args.to.now c.loop-start.to (pairings t) c.args.tree.now.rectangles
          c.args.bounds c.loop-start.start c.len-end.result (own-at from from.extent refl c.shape-2.ensures.rising)
          c.requires.round c.requires.bounds inv.below (omega (arith, many, inv.all))
          (λ k d low high. c.in-None.ensures.hit k d low (omega (arith, many, long, inv.all))) inv.added;
      seen = inv.seen;
    }

pub returns : goal.returns
returns c =
    rows-added c.args.dir c.args.table.now c.args.input c.loop-start.start c.args.from.now c.args.to.now c.loop-start.to
    c.requires.to (omega (arith, c.loop-start.invariant.all, c.loop-start.invariant.below)) c.loop-start.invariant.added
