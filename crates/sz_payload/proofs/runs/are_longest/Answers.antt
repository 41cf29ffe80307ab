-- Where all runs are the longest ones of a set, each keeps what is tested of it.
use Rattle.std.proofs.Common.{◌≡◌, ◌+◌, ◌*◌, ◌/◌, ◌<◌, ◌≤◌, length, take, refl, sym, ap, ◌∙◌, arith}
use Rattle.std.proofs.Common.{◌∷◌, [], ◌++◌, true≢false}
use Rattle.std.proofs.lemmas.List.{take_all, take_more}
use Rattle.sz_cells.specs.declared.Run.{Run}
use Rattle.sz_cells.specs.SetWords.{runs_spelled}
use Rattle.sz_region.proofs.Spelling.{end_of, runs-more, end-more, spelled-count, run-kept}
use Rattle.sz_payload.proofs.SetWords.{run-here}
use Rattle.sz_payload.proofs.runs.are_longest.Goals as goal
use Rattle.sz_payload.proofs.runs.are_longest.Goals.{then-run-least-via-then-run-least}
use Rattle.sz_payload.proofs.runs.are_longest.Goals.{then-run-least-via-else-run-least+then-run}
use Rattle.sz_payload.proofs.runs.are_longest.Goals.{then-run-least-via-else-run-least+else-run+then-size-run}

pub returns-then-run-least : goal.returns-then-run-least
returns-then-run-least c = (
  λ t. absurd (true≢false (sym t)),
  λ are.
      let runs = runs_spelled c.args.body.now in
      let i = c.loop-index.index in
      let run = c.run_at-run.result in
      let inv = c.loop-index.invariant in
      let here = run-here c.args.body.now i run c.requires.whole (omega (arith, inv.count)) c.run_at-run.ensures in
      let kept = run-kept c.args.size i runs run here.inside are in
      let low : end_of 0 (take i runs) ≤ run.first = rw (← here.at) kept.0 in
      let order : run.first ≤ run.last = rw (← here.at) kept.1 in
      let high : run.last < c.args.size = rw (← here.at) kept.2 in
      elim c.then-run-least.branch [
        | then-run-least-via-then-run-least w ↦ absurd (omega (arith, inv.least, w.if-run-least.true))
        | then-run-least-via-else-run-least+then-run w ↦ absurd (omega (arith, w.if-run.true))
        | then-run-least-via-else-run-least+else-run+then-size-run w ↦ absurd (omega (arith, w.if-size-run.true))
      ],
)

pub loop-index-preserved : goal.loop-index-preserved
loop-index-preserved c =
    let runs = runs_spelled c.args.body.now in
    let i = c.loop-index.index in
    let run = c.run_at-run.result in
    let inv = c.loop-index.invariant in
    let here = run-here c.args.body.now i run c.requires.whole (omega (arith, inv.count)) c.run_at-run.ensures in
    let more : take (i + 1) runs ≡ take i runs ++ run ∷ [] =
    take_more runs i run here.inside ∙ ap (λ (r : Run). take i runs ++ r ∷ []) here.at in
    record {
      count = refl;
      longest = rw more (runs-more 0 c.args.size (take i runs) run inv.longest (omega (arith, inv.least)) (omega arith)
          (omega arith));
      least = rw more (sym (end-more 0 (take i runs) run));
    }

pub returns : goal.returns
returns c =
    let body = c.args.body.now in
    let runs = runs_spelled body in
    let long : length body ≡ 8 * (length body / 8) = omega (arith, c.requires.whole) in
    let all : take c.loop-index.index runs ≡ runs = take_all c.loop-index.index runs (omega (
      arith,
      spelled-count (length body / 8) body long,
      c.loop-index.invariant.count,
      c.loop-index-test.false,
    )) in (
      λ t. rw all at c.loop-index.invariant.longest,
      λ are. refl,
    )
