-- One run more, and at the end all of them.
use Rattle.std.proofs.Common.{◌+◌, ◌&&◌, List, [], take, get_or, refl, ap, ◌∙◌}
use Rattle.std.proofs.lemmas.List.{take_all}
use Rattle.sz_cells.specs.declared.Run.{Run}
use Rattle.sz_cells.specs.Extent.{size_of, index_of}
use Rattle.sz_cells.specs.Cells.{Cells, any_cell, with_those}
use Rattle.sz_cells.specs.Runs.{covers, is_in}
use Rattle.sz_cells.proofs.Runs.{runs-at}
use Rattle.sz_spec.specs.Payloads.{mapped_by_payload}
use Rattle.sz_frame.proofs.Added.{own-at}
use Rattle.sz_payload.proofs.Adding.{tests-none, tests-next, runs-next}
use Rattle.sz_payload.proofs.look.Look.add_met.Goals as goal

pub loop-run-init : goal.loop-run-init
loop-run-init c =
    let s = c.args.self.now.at.now in
    let to = c.args.to.now in
    tests-none to (λ o. covers [] (index_of s.out o))
    (λ o. any_cell (mapped_by_payload s.op s.ins c.args.payload.now c.args.input o) c.args.from.now)
    (own-at to to.extent refl c.shape.ensures.rising) (λ o. refl)

pub add_met_run-requires-clause-order : goal.add_met_run-requires-clause-order
add_met_run-requires-clause-order c =
    (runs-at 0 (size_of c.args.self.now.at.now.out) c.args.runs.now c.loop-run.run-index
    (record { first = 0; last = 0 })
    c.requires.runs c.loop-run-test.true).1

pub add_met_run-requires-clause-within : goal.add_met_run-requires-clause-within
add_met_run-requires-clause-within c =
    (runs-at 0 (size_of c.args.self.now.at.now.out) c.args.runs.now c.loop-run.run-index
    (record { first = 0; last = 0 })
    c.requires.runs c.loop-run-test.true).2

pub add_met_run-requires-clause-to : goal.add_met_run-requires-clause-to
add_met_run-requires-clause-to c = ap (λ (s : Cells). s.extent) c.loop-run.invariant ∙ c.requires.to

pub loop-run-preserved : goal.loop-run-preserved
loop-run-preserved c =
    let s = c.args.self.now.at.now in
    let runs = c.args.runs.now in
    let i = c.loop-run.run-index in
    let none : Run = record { first = 0; last = 0 } in
    tests-next c.args.to.now c.loop-run.to c.add_met_run.new.to (λ o. covers (take i runs) (index_of s.out o))
    (λ o. is_in (get_or runs i none) (index_of s.out o)) (λ o. covers (take (i + 1) runs) (index_of s.out o))
    (λ o. any_cell (mapped_by_payload s.op s.ins c.args.payload.now c.args.input o) c.args.from.now)
    c.loop-run.invariant c.add_met_run.ensures (λ o held. runs-next runs i none (index_of s.out o) c.loop-run-test.true)

pub returns : goal.returns
returns c =
    let s = c.args.self.now.at.now in
    c.loop-run.invariant
    ∙ ap (λ (rs : List Run). with_those c.args.to.now (λ o. covers rs (index_of s.out o)
    && any_cell (mapped_by_payload s.op s.ins c.args.payload.now c.args.input o) c.args.from.now))
    (take_all c.loop-run.run-index c.args.runs.now c.loop-run-test.false)
