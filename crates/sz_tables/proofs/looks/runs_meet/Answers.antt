-- Run by run: the one with an asked index ends the look, and where none has one no index is met.
use Rattle.std.proofs.Common.{List, sym, ap, ◌∙◌, arith}
use Rattle.std.specs.List.{list_any}
use Rattle.std.proofs.lemmas.List.{take_all}
use Rattle.sz_cells.specs.declared.Run.{Run}
use Rattle.sz_cells.specs.Extent.{size_of}
use Rattle.sz_cells.specs.Runs.{covers}
use Rattle.sz_cells.proofs.Runs.{runs-head, runs-lower}
use Rattle.sz_tables.proofs.MetRuns.{unmet-none, unmet-more, met-one}
use Rattle.sz_tables.proofs.looks.runs_meet.Goals as goal

pub loop-run-init : goal.loop-run-init
loop-run-init c = record {
  next = c.next_after-next.ensures;
  left = c.requires;
  unmet = unmet-none c.args.from.now.indexes;
}

pub next_from-next-requires-clause-order : goal.next_from-next-requires-clause-order
next_from-next-requires-clause-order c =
    (runs-head c.loop-run.start (size_of c.args.from.now.extent) c.args.runs.now c.loop-run.run-index
    (record { first = 0; last = 0 }) c.loop-run-test.true c.loop-run.invariant.left).0

pub loop-run-preserved : goal.loop-run-preserved
loop-run-preserved c =
    let none : Run = record { first = 0; last = 0 } in
    let bound = size_of c.args.from.now.extent in
    let runs = c.args.runs.now in
    let i = c.loop-run.run-index in
    let head = runs-head c.loop-run.start bound runs i none c.loop-run-test.true c.loop-run.invariant.left in
    record {
      next = c.next_from-next.ensures;
      left = runs-lower _ _ bound _ (omega (arith, head.1)) head.3;
      unmet = unmet-more runs i none c.args.from.now.indexes c.loop-run-test.true c.loop-run.invariant.unmet
          (sym c.is_up_to.ensures ∙ c.if-is_up_to.false);
    }

pub returns-then-is_up_to-clause-met : goal.returns-then-is_up_to-clause-met
returns-then-is_up_to-clause-met c =
    sym
    (met-one c.args.runs.now c.loop-run.run-index (record { first = 0; last = 0 }) c.args.from.now.indexes
    c.loop-run-test.true (sym c.is_up_to.ensures ∙ c.if-is_up_to.true))

pub returns-clause-met : goal.returns-clause-met
returns-clause-met c =
    sym
    (ap (λ (rs : List Run). list_any (covers rs) c.args.from.now.indexes)
    (sym (take_all c.loop-run.run-index c.args.runs.now c.loop-run-test.false))
    ∙ c.loop-run.invariant.unmet)
