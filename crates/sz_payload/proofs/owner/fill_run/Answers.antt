-- One index more, and at the end all of the run.
use Rattle.std.proofs.Common.{◌<◌, length, arith}
use Rattle.sz_payload.proofs.Owning.{filled-none, filled-more, filled-all}
use Rattle.sz_payload.proofs.owner.fill_run.Goals as goal

pub loop-index-init : goal.loop-index-init
loop-index-init c = filled-none c.args.slots.now c.args.run.first c.args.number

pub loop-index-preserved : goal.loop-index-preserved
loop-index-preserved c =
    let inside : c.loop-index.index < length c.loop-index.slots = omega arith in
    filled-more c.args.slots.now c.loop-index.slots c.args.run.first c.loop-index.index c.args.number inside
    (omega (arith, c.loop-index.auto.index)) c.loop-index.invariant

pub returns : goal.returns
returns c = λ k inside.
    filled-all c.args.slots.now c.loop-index.slots c.args.run c.loop-index.index c.args.number (omega arith)
    c.loop-index.invariant k inside
