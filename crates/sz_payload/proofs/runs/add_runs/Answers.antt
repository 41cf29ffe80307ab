-- Where the runs are the longest ones of a set, each of them is within the shape and is added.
use Rattle.std.proofs.Common.{◌≡◌, ◌*◌, ◌/◌, ◌<◌, ◌≤◌, length, refl, sym, ap, subst, ◌∙◌, arith}
use Rattle.std.proofs.lemmas.List.{take_all}
use Rattle.sz_cells.specs.Extent.{Extent, size_of}
use Rattle.sz_cells.specs.Cells.{Cells, union_of}
use Rattle.sz_cells.specs.Runs.{covers}
use Rattle.sz_cells.specs.SetWords.{runs_spelled}
use Rattle.sz_cells.specs.Words.{cells_at}
use Rattle.sz_cells.proofs.Bitmaps.{runs-start, runs-step}
use Rattle.sz_frame.proofs.Added.{own-at}
use Rattle.sz_region.proofs.Spelling.{spelled-count, run-kept}
use Rattle.sz_payload.proofs.SetWords.{run-here}
use Rattle.sz_payload.proofs.runs.add_runs.Goals as goal
use Rattle.sz_payload.proofs.runs.add_runs.Goals.{then-run+then-run-size, else-run}
use Rattle.sz_payload.proofs.runs.add_runs.Goals.{else-run-via-then-run+else-run-size, else-run-via-else-run}

pub loop-index-init : goal.loop-index-init
loop-index-init c = record {
  count = refl;
  size = c.size-size.ensures.value ∙ ap size_of c.shape-shape.ensures.value;
  extent = refl;
  added = λ are. runs-start c.args.to.now (own-at c.args.to.now c.args.to.now.extent refl
      c.shape-shape.ensures.rising);
}

pub loop-index-preserved : goal.loop-index-preserved
loop-index-preserved c =
    let to = c.args.to.now in
    let runs = runs_spelled c.args.body.now in
    let i = c.loop-index.index in
    let run = c.run_at-run.result in
    let inv = c.loop-index.invariant in
    let here = run-here c.args.body.now i run c.requires (omega (arith, inv.count)) c.run_at-run.ensures in
    elim c.if-run.branch [
      | then-run+then-run-size w ↦
          let within : run.last < size_of c.loop-index.to.extent =
          subst (λ (e : Extent). run.last < size_of e) (sym inv.extent) (omega (arith, inv.size, w.if-run-size.true)) in
          record {
            count = refl;
            size = inv.size;
            extent = ap (λ (s : Cells). s.extent) (w.to-is ∙ w.add_run.ensures) ∙ inv.extent;
            added = λ are. w.to-is
                ∙ runs-step to c.loop-index.to w.add_run.new.self runs i run here.inside (inv.added are)
                (rw here.at (omega (arith, w.if-run.true))) (rw here.at within) (rw here.at w.add_run.ensures);
          }
      | else-run w ↦ record {
        count = refl;
        size = inv.size;
        extent = ap (λ (s : Cells). s.extent) w.to-is ∙ inv.extent;
        added = λ are.
            let kept = run-kept (size_of to.extent) i runs run here.inside are in
            let order : run.first ≤ run.last = rw (← here.at) kept.1 in
            let high : run.last < size_of to.extent = rw (← here.at) kept.2 in
            elim w.else-run.branch [
              | else-run-via-then-run+else-run-size v ↦ absurd (omega (arith, inv.size, v.if-run-size.false))
              | else-run-via-else-run v ↦ absurd (omega (arith, v.if-run.false))
            ];
      }
    ]

pub returns-clause-added : goal.returns-clause-added
returns-clause-added c = λ are.
    let body = c.args.body.now in
    let to = c.args.to.now in
    let long : length body ≡ 8 * (length body / 8) = omega (arith, c.requires) in
    c.loop-index.invariant.added are
    ∙ ap (λ rs. union_of to (cells_at to.extent (covers rs))) (take_all c.loop-index.index (runs_spelled body) (omega (
      arith,
      spelled-count (length body / 8) body long,
      c.loop-index.invariant.count,
      c.loop-index-test.false,
    )))
