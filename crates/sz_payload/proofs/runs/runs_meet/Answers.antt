-- The first run that has an asked index ends the look, and where none has one no index is met.
use Rattle.std.proofs.Common.{◌≡◌, ◌*◌, ◌/◌, length, List, refl, sym, ap, ◌∙◌, arith}
use Rattle.std.specs.List.{list_any}
use Rattle.std.proofs.lemmas.List.{take_all}
use Rattle.sz_cells.specs.declared.Run.{Run}
use Rattle.sz_cells.specs.Runs.{covers, is_in}
use Rattle.sz_cells.specs.SetWords.{runs_spelled}
use Rattle.sz_region.proofs.Spelling.{spelled-count}
use Rattle.sz_tables.proofs.MetRuns.{unmet-none, unmet-more, met-one}
use Rattle.sz_payload.proofs.SetWords.{run-here}
use Rattle.sz_payload.proofs.runs.runs_meet.Goals as goal

pub loop-index-init : goal.loop-index-init
loop-index-init c = record { count = refl; unmet = unmet-none c.args.from.now.indexes }

pub returns-then-run_meets-clause-met : goal.returns-then-run_meets-clause-met
returns-then-run_meets-clause-met c =
    let xs = c.args.from.now.indexes in
    let i = c.loop-index.index in
    let run = c.run_at.result in
    let here = run-here c.args.body.now i run c.requires.whole (omega (arith, c.loop-index.invariant.count))
    c.run_at.ensures in
    sym
    (met-one (runs_spelled c.args.body.now) i run xs here.inside
    (ap (λ (r : Run). list_any (is_in r) xs) here.at ∙ sym c.run_meets.ensures.met ∙ c.if-run_meets.true))

pub loop-index-preserved : goal.loop-index-preserved
loop-index-preserved c =
    let xs = c.args.from.now.indexes in
    let i = c.loop-index.index in
    let run = c.run_at.result in
    let here = run-here c.args.body.now i run c.requires.whole (omega (arith, c.loop-index.invariant.count))
    c.run_at.ensures in
    record {
      count = refl;
      unmet = unmet-more (runs_spelled c.args.body.now) i run xs here.inside c.loop-index.invariant.unmet
          (ap (λ (r : Run). list_any (is_in r) xs) here.at ∙ sym c.run_meets.ensures.met ∙ c.if-run_meets.false);
    }

pub returns-clause-met : goal.returns-clause-met
returns-clause-met c =
    let body = c.args.body.now in
    let long : length body ≡ 8 * (length body / 8) = omega (arith, c.requires.whole) in
    let all = take_all c.loop-index.index (runs_spelled body) (omega (
      arith,
      spelled-count (length body / 8) body long,
      c.loop-index.invariant.count,
      c.loop-index-test.false,
    )) in
    sym
    (ap (λ (rs : List Run). list_any (covers rs) c.args.from.now.indexes) (sym all) ∙ c.loop-index.invariant.unmet)
