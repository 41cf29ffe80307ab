-- The run at each place is the one that its eight bytes spell. Where all are the longest ones of a set, each keeps
-- what is tested of it.
use Rattle.std.proofs.Common.{◌≡◌, ℕ, ◌*◌, ◌/◌, ◌<◌, ◌≤◌, length, take, get_or, refl, ap, sym, ◌∙◌, arith}
use Rattle.std.proofs.Math.Seq.{take-length}
use Rattle.std.proofs.lemmas.List.{take_more}
use Rattle.sz_cells.specs.Extent.{size_of}
use Rattle.sz_cells.specs.SetWords.{runs_spelled}
use Rattle.sz_region.proofs.Spelling.{end_of, runs-more, end-more, spelled-count, spelled-at, run-kept}
use Rattle.sz_region.proofs.set_bytes.take_runs.Goals as goal
use Rattle.sz_region.proofs.set_bytes.take_runs.Goals.{then-run-least-via-then-run-least}
use Rattle.sz_region.proofs.set_bytes.take_runs.Goals.{then-run-least-via-else-run-least+then-run}
use Rattle.sz_region.proofs.set_bytes.take_runs.Goals.{then-run-least-via-else-run-least+else-run+then-size-run}

pub returns-then-run-least-clause-err : goal.returns-then-run-least-clause-err
returns-then-run-least-clause-err c are =
    let body = c.args.body.now in
    let i = c.loop-index.index in
    let run = c.run_at-run.result in
    let long : length body ≡ 8 * (length body / 8) = omega arith in
    let inside : i < length (runs_spelled body) = omega (
      arith,
      spelled-count (length body / 8) body long,
      c.loop-index.invariant.count,
    ) in
    let at : get_or (runs_spelled body) i run ≡ run = spelled-at i (i * 8) body run (omega arith)
    (omega (arith, c.loop-index.invariant.count)) ∙ sym c.run_at-run.ensures in
    let kept = run-kept (size_of c.args.shape.now) i (runs_spelled body) run inside are in
    let low : end_of 0 c.loop-index.to.items ≤ run.first = rw (← at, c.loop-index.invariant.runs) kept.0 in
    let order : run.first ≤ run.last = rw (← at) kept.1 in
    let high : run.last < size_of c.args.shape.now = rw (← at) kept.2 in
    elim c.then-run-least.branch [
      | then-run-least-via-then-run-least w ↦ omega (arith, c.loop-index.invariant.least)
      | then-run-least-via-else-run-least+then-run w ↦ omega arith
      | then-run-least-via-else-run-least+else-run+then-size-run w ↦ omega (arith, c.loop-index.invariant.size)
    ]

pub loop-index-preserved : goal.loop-index-preserved
loop-index-preserved c =
    let body = c.args.body.now in
    let i = c.loop-index.index in
    let run = c.run_at-run.result in
    let inv = c.loop-index.invariant in
    let long : length body ≡ 8 * (length body / 8) = omega arith in
    let inside : i < length (runs_spelled body) = omega (
      arith,
      spelled-count (length body / 8) body long,
      inv.count,
    ) in
    let at : get_or (runs_spelled body) i run ≡ run = spelled-at i (i * 8) body run (omega arith)
    (omega (arith, inv.count)) ∙ sym c.run_at-run.ensures in
    record {
      count = refl;
      size = inv.size;
      runs = rw (c.in_ok-push.ensures.items, inv.runs, take_more (runs_spelled body) i run inside, at) refl;
      longest = rw c.in_ok-push.ensures.items (runs-more 0 (size_of c.args.shape.now) c.loop-index.to.items run
          inv.longest (omega (arith, inv.least)) (omega arith) (omega (arith, inv.size)));
      least = rw c.in_ok-push.ensures.items (sym (end-more 0 c.loop-index.to.items run));
    }

pub returns-clause-runs : goal.returns-clause-runs
returns-clause-runs c =
    let body = c.args.body.now in
    let inv = c.loop-index.invariant in
    let long : length body ≡ 8 * (length body / 8) = omega arith in
    let all : c.loop-index.index ≡ length (runs_spelled body) = omega (
      arith,
      spelled-count (length body / 8) body long,
      inv.count,
    ) in
    inv.runs ∙ ap (λ (n : ℕ). take n (runs_spelled body)) all ∙ take-length (runs_spelled body)
