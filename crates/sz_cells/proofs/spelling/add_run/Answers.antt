-- The last run is split off the others: it grows, or the next run follows it after a gap.
use Rattle.std.proofs.Common.{◌+◌, ◌≤◌, refl, arith, true≢false, sym}
use Rattle.sz_cells.proofs.Runs.{added-touching, added-apart, added-first}
use Rattle.sz_cells.proofs.spelling.add_run.Goals as goal
use Rattle.sz_cells.proofs.spelling.add_run.Goals.{then-next-run-via-then-next-run}
use Rattle.sz_cells.proofs.spelling.add_run.Goals.{then-next-run-via-else-next-run+then-next-run-eq1}
use Rattle.sz_cells.proofs.spelling.add_run.Goals.{in-Some+else-next-run+else-next-run-eq1, in_default}

pub returns-then-next-run : goal.returns-then-next-run
returns-then-next-run c =
    let touch : c.args.next.first ≤ c.in-Some.run'.now.last + 1 =
    elim c.then-next-run.branch [
      | then-next-run-via-then-next-run w ↦
          omega arith
      | then-next-run-via-else-next-run+then-next-run-eq1 w ↦ omega arith
    ] in
    let added =
    added-touching c.args.runs.now.items c.args.runs.now.len c.in-Some.run'.now c.args.next c.args.runs.now.ok.0
    (c.in-Some.ensures.variant.0 refl) c.in-Some.ensures.value
    c.requires.order c.requires.later touch in
    rw c.max-run.ensures (record { longest = added.longest; begun = added.begun; added = added.added; kept = tt })

pub returns-clause-longest : goal.returns-clause-longest
returns-clause-longest c =
    rw c.in_ok-push.ensures.items
    (elim c.match-last_mut.branch [
      | in-Some+else-next-run+else-next-run-eq1 w ↦
          rw w.runs-is
          (added-apart c.args.runs.now.items c.args.runs.now.len w.in-Some.run'.now c.args.next c.args.runs.now.ok.0
          (w.in-Some.ensures.variant.0 refl) w.in-Some.ensures.value c.requires.order c.requires.later
          (omega arith)).longest
      | in_default w ↦
          rw w.runs-is
          (added-first c.args.runs.now.items c.args.runs.now.len c.args.next c.args.runs.now.ok.0
          (λ some. true≢false (sym (w.in_default.ensures.variant.1 some))) c.requires.order).longest
    ])
