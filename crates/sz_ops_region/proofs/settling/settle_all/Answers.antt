-- A word is made its cell's label by those before it, and in the end all are.
use Rattle.std.proofs.Common.{refl, sym, ◌∙◌, arith}
use Rattle.sz_ops_region.proofs.Settled.{settled-first, settled-next, settled-down}
use Rattle.sz_ops_region.proofs.settling.settle_all.Goals as goal

pub settle-requires-clause-down : goal.settle-requires-clause-down
settle-requires-clause-down c p is =
    settled-down c.args.words.now c.loop-index.words c.loop-index.index p c.loop-index.invariant.settled is

pub loop-index-preserved : goal.loop-index-preserved
loop-index-preserved c =
    let inv = c.loop-index.invariant in
    record {
      end = inv.end ∙ sym c.settle.auto.words;
      settled = settled-next c.args.words.now c.loop-index.words c.settle.new.words c.loop-index.index c.settle.result
          inv.settled (omega (arith, inv.end, c.loop-index-test.true)) c.settle.ensures.word c.settle.ensures.words;
    }

pub loop-index-init : goal.loop-index-init
loop-index-init c = record {
  end = refl;
  settled = settled-first c.args.words.now c.requires;
}

pub returns : goal.returns
returns c root roots k below =
    let inv = c.loop-index.invariant in
    inv.settled.done root roots k (omega (arith, below, inv.end, inv.settled.long, c.loop-index.auto.index-end))
