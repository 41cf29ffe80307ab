-- One run more, and at the end all of them.
use Rattle.std.proofs.Common.{List, length, get_or, cond, refl, ap, ◌∙◌, arith}
use Rattle.std.proofs.lemmas.List.{take_all}
use Rattle.sz_cells.specs.declared.Run.{Run}
use Rattle.sz_cells.specs.Runs.{covers}
use Rattle.sz_cells.proofs.Runs.{runs-at}
use Rattle.sz_payload.proofs.Owning.{filled-run}
use Rattle.sz_payload.proofs.owner.fill.Goals as goal

pub loop-run-init : goal.loop-run-init
loop-run-init c = λ k inside. refl

pub fill_run-requires-clause-order : goal.fill_run-requires-clause-order
fill_run-requires-clause-order c =
    (runs-at 0 (length c.args.slots.now) c.args.runs.now c.loop-run.run-index (record { first = 0; last = 0 })
    c.requires.runs c.loop-run-test.true).1

pub fill_run-requires-clause-within : goal.fill_run-requires-clause-within
fill_run-requires-clause-within c =
    let at = runs-at 0 (length c.args.slots.now) c.args.runs.now c.loop-run.run-index (record { first = 0; last = 0 })
    c.requires.runs c.loop-run-test.true in
    omega (arith, at.2)

pub loop-run-preserved : goal.loop-run-preserved
loop-run-preserved c =
    filled-run c.args.slots.now c.loop-run.slots c.fill_run.new.slots c.args.runs.now c.loop-run.run-index
    (record { first = 0; last = 0 }) c.args.number c.loop-run-test.true (omega arith) c.loop-run.invariant
    c.fill_run.ensures

pub returns : goal.returns
returns c = λ k inside.
    c.loop-run.invariant k inside
    ∙ ap (λ (rs : List Run). cond (covers rs k) c.args.number (get_or c.args.slots.now k 0))
    (take_all c.loop-run.run-index c.args.runs.now c.loop-run-test.false)
