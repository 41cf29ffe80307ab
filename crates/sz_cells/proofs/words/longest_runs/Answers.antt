-- Each turn finds the next bit that is 1 and the next after it that is 0; when none is left, all bits are covered.
use Rattle.std.proofs.Common.{◌-◌, ◌*◌, ◌≤◌, sym, arith}
use Rattle.std.proofs.lemmas.List.Elements.{All-weaker}
use Rattle.sz_cells.specs.Words.{has_bit}
use Rattle.sz_cells.proofs.Runs.{Added}
use Rattle.sz_cells.proofs.WordRuns.{find-some, runs-none, runs-next, runs-all}
use Rattle.sz_cells.proofs.words.longest_runs.Goals as goal

pub loop-start-init : goal.loop-start-init
loop-start-init c = runs-none c.args.words.now c.new-runs.result.items (c.args.first * 64) c.new-runs.ensures.items
    c.requires.before

pub next_zero-gap-requires-clause-one : goal.next_zero-gap-requires-clause-one
next_zero-gap-requires-clause-one c =
    (find-some (has_bit c.args.words.now) (c.args.end * 64 - c.loop-start.from) c.loop-start.from c.in-Some.start
    (sym c.in-Some.ensures)).0.passes

pub next_zero-gap-requires-clause-low : goal.next_zero-gap-requires-clause-low
next_zero-gap-requires-clause-low c =
    let found = find-some (has_bit c.args.words.now) (c.args.end * 64 - c.loop-start.from) c.loop-start.from
    c.in-Some.start (sym c.in-Some.ensures) in
    omega (arith, found.1, found.0.low)

pub add_run-requires-clause-later : goal.add_run-requires-clause-later
add_run-requires-clause-later c =
    let found = find-some (has_bit c.args.words.now) (c.args.end * 64 - c.loop-start.from) c.loop-start.from
    c.in-Some.start (sym c.in-Some.ensures) in
    All-weaker (λ r. r.first ≤ c.loop-start.from) (λ r. r.first ≤ c.in-Some.start)
    (λ r low. omega (arith, found.0.low)) c.loop-start.runs.items c.loop-start.invariant.begun

pub loop-start-smaller : goal.loop-start-smaller
loop-start-smaller c =
    let found = find-some (has_bit c.args.words.now) (c.args.end * 64 - c.loop-start.from) c.loop-start.from
    c.in-Some.start (sym c.in-Some.ensures) in
    omega (arith, found.1, found.0.low)

pub loop-start-preserved : goal.loop-start-preserved
loop-start-preserved c =
    let found = find-some (has_bit c.args.words.now) (c.args.end * 64 - c.loop-start.from) c.loop-start.from
    c.in-Some.start (sym c.in-Some.ensures) in
    let said = c.in_ok-add_run.ensures in
    let added : Added c.loop-start.runs.items c.add_run.new.runs.items (record {
      first = c.in-Some.start;
      last =
          c.next_zero-gap.result - 1;
    }) =
    record { longest = said.longest; begun = said.begun; added = said.added } in
    runs-next c.args.words.now c.loop-start.runs.items c.add_run.new.runs.items c.loop-start.from c.in-Some.start
    c.next_zero-gap.result c.loop-start.invariant found.0
    c.next_zero-gap.ensures.later c.next_zero-gap.ensures.ones added

pub returns-clause-covered : goal.returns-clause-covered
returns-clause-covered c =
    runs-all c.args.words.now c.loop-start.runs.items c.loop-start.from (c.args.end * 64) c.loop-start.invariant
    (sym c.in_default.ensures) c.requires.after
