-- The cells of the runs so far, and of one more, are no more than those of all runs, which are no more than the size.
use Rattle.std.proofs.Common.{◌+◌, ◌-◌, get_or, arith, ap, length, ◌∙◌}
use Rattle.std.specs.List.{flat_map}
use Rattle.std.proofs.lemmas.List.{take_all}
use Rattle.std.proofs.lemmas.List.FromFn.{length-range_with_len}
use Rattle.std.proofs.lemmas.List.Folds.{length-flat_map-take}
use Rattle.sz_cells.specs.declared.Run.{Run}
use Rattle.sz_cells.specs.Runs.{indexes_of}
use Rattle.sz_cells.proofs.Runs.{runs-at, spelled-length, spelled-more}
use Rattle.sz_tables.proofs.apart.cells_of_runs.Goals as goal

pub overflow_sub-count : goal.overflow_sub-count
overflow_sub-count c = (runs-at 0 c.args.size c.args.runs.now c.loop-run.run-index
    (record { first = 0; last = 0 }) c.requires.longest c.loop-run-test.true).1

pub overflow_add-count : goal.overflow_add-count
overflow_add-count c =
    omega (
      arith,
      (runs-at 0 c.args.size c.args.runs.now c.loop-run.run-index
          (record { first = 0; last = 0 }) c.requires.longest c.loop-run-test.true).2,
      c.requires.few,
    )

pub overflow_add-count-in-loop-run : goal.overflow_add-count-in-loop-run
overflow_add-count-in-loop-run c =
    let run : Run = get_or c.args.runs.now c.loop-run.run-index (record { first = 0; last = 0 }) in
    omega (
      arith,
      length-flat_map-take indexes_of c.args.runs.now c.loop-run.run-index (record { first = 0; last = 0 })
          c.loop-run-test.true,
      length-range_with_len run.first (run.last - run.first + 1),
      spelled-length c.args.size c.args.runs.now c.requires.longest,
      c.requires.few,
      c.loop-run.invariant,
    )

pub loop-run-preserved : goal.loop-run-preserved
loop-run-preserved c =
    let more = spelled-more c.args.runs.now c.loop-run.run-index (record { first = 0; last = 0 }) c.loop-run-test.true
    in
    omega (arith, more, c.loop-run.invariant)

pub returns : goal.returns
returns c =
    let all = c.loop-run.invariant
    ∙ ap (λ rs. length (flat_map indexes_of rs))
    (take_all c.loop-run.run-index c.args.runs.now c.loop-run-test.false) in
    record {
      count = all;
      few = omega (arith, all, spelled-length c.args.size c.args.runs.now c.requires.longest);
    }
