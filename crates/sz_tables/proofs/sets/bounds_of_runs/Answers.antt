-- Each turn makes the rectangle wide enough for one run more, and no cell falls out of it.
use Rattle.std.proofs.Common.{subst, take, get_or, arith}
use Rattle.std.specs.List.{All}
use Rattle.std.proofs.lemmas.List.{take_all}
use Rattle.std.proofs.lemmas.List.Elements.{All-more, All-weaker}
use Rattle.sz_cells.specs.declared.Run.{Run}
use Rattle.sz_cells.specs.Extent.{size_of}
use Rattle.sz_cells.specs.Runs.{indexes_of}
use Rattle.sz_cells.proofs.Runs.{runs-at}
use Rattle.sz_tables.specs.Sets.{IsRoundRun}
use Rattle.sz_tables.proofs.Rounding.{kept-wider, round-run, spelled-round}
use Rattle.sz_tables.proofs.sets.bounds_of_runs.Goals as goal

abbrev none : Run
none = record { first = 0; last = 0 }

pub bounds_with_run-bounds-requires-clause-order : goal.bounds_with_run-bounds-requires-clause-order
bounds_with_run-bounds-requires-clause-order c =
    (runs-at 0 (size_of c.args.shape) c.args.runs.now c.loop-run.run-index none c.requires (omega arith)).1

pub bounds_with_run-bounds-requires-clause-within : goal.bounds_with_run-bounds-requires-clause-within
bounds_with_run-bounds-requires-clause-within c =
    (runs-at 0 (size_of c.args.shape) c.args.runs.now c.loop-run.run-index none c.requires (omega arith)).2

pub loop-run-preserved : goal.loop-run-preserved
loop-run-preserved c =
    let e = c.args.shape in
    let new = c.bounds_with_run-bounds in
    let run = get_or c.args.runs.now c.loop-run.run-index none in
    All-more (IsRoundRun e new.result) c.args.runs.now c.loop-run.run-index none (omega arith)
    (All-weaker (IsRoundRun e c.loop-run.bounds) (IsRoundRun e new.result)
    (λ r round cell held low high. rw new.ensures (kept-wider e c.loop-run.bounds (indexes_of run) cell
    (round cell held low high)))
    (take c.loop-run.run-index c.args.runs.now) c.loop-run.invariant)
    (rw new.ensures (round-run e c.loop-run.bounds run
    (runs-at 0 (size_of e) c.args.runs.now c.loop-run.run-index none c.requires (omega arith)).1))

pub returns : goal.returns
returns c =
    let e = c.args.shape in
    let runs = c.args.runs.now in
    spelled-round e c.loop-run.bounds runs c.requires
    (subst (All (IsRoundRun e c.loop-run.bounds)) (take_all c.loop-run.run-index runs (omega arith))
    c.loop-run.invariant)
