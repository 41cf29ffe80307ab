-- One cell of the run more, and at the end all of them.
use Rattle.std.proofs.Common.{◌+◌, ◌==◌, ◌&&◌, nat_le, nat_lt, refl, ap, ◌∙◌, arith}
use Rattle.sz_cells.specs.Extent.{index_of}
use Rattle.sz_cells.specs.Cells.{Cells, any_cell}
use Rattle.sz_cells.specs.Runs.{is_in}
use Rattle.sz_spec.specs.Payloads.{mapped_by_payload}
use Rattle.sz_frame.proofs.Added.{own-at}
use Rattle.sz_payload.proofs.Adding.{tests-none, tests-next, tests-same, run-none, run-next, run-all}
use Rattle.sz_payload.proofs.look.Look.add_met_run.Goals as goal

pub loop-index-init : goal.loop-index-init
loop-index-init c =
    let s = c.args.self.now.at.now in
    let to = c.args.to.now in
    let first = c.args.run.first in
    tests-none to (λ o. nat_le first (index_of s.out o) && nat_lt (index_of s.out o) first)
    (λ o. any_cell (mapped_by_payload s.op s.ins c.args.payload.now c.args.input o) c.args.from.now)
    (own-at to to.extent refl c.shape.ensures.rising) (λ o. run-none first (index_of s.out o))

pub add_met_cell-requires-clause-to : goal.add_met_cell-requires-clause-to
add_met_cell-requires-clause-to c = ap (λ (s : Cells). s.extent) c.loop-index.invariant ∙ c.requires.to

pub loop-index-preserved : goal.loop-index-preserved
loop-index-preserved c =
    let s = c.args.self.now.at.now in
    let first = c.args.run.first in
    let i = c.loop-index.index in
    tests-next c.args.to.now c.loop-index.to c.add_met_cell.new.to
    (λ o. nat_le first (index_of s.out o) && nat_lt (index_of s.out o) i) (λ o. index_of s.out o == i)
    (λ o. nat_le first (index_of s.out o) && nat_lt (index_of s.out o) (i + 1))
    (λ o. any_cell (mapped_by_payload s.op s.ins c.args.payload.now c.args.input o) c.args.from.now)
    c.loop-index.invariant c.add_met_cell.ensures
    (λ o held. run-next first i (index_of s.out o) (omega (arith, c.loop-index.auto.index)))

pub returns : goal.returns
returns c =
    let s = c.args.self.now.at.now in
    let first = c.args.run.first in
    let i = c.loop-index.index in
    tests-same c.args.to.now c.loop-index.to (λ o. nat_le first (index_of s.out o) && nat_lt (index_of s.out o) i)
    (λ o. is_in c.args.run (index_of s.out o))
    (λ o. any_cell (mapped_by_payload s.op s.ins c.args.payload.now c.args.input o) c.args.from.now)
    c.loop-index.invariant (λ o. run-all c.args.run i (index_of s.out o) (omega arith))
