-- There are no more longest runs than cells, and each begins no earlier than the runs before it say.
use Rattle.std.proofs.Common.{◌≡◌, ℕ, ◌+◌, List, [], ◌∷◌, ◌++◌, length, take, get_or, ap, sym, ◌∙◌, arith, rules}
use Rattle.std.proofs.Common.{append_assoc}
use Rattle.std.proofs.lemmas.List.{take_more}
use Rattle.sz_cells.specs.declared.Run.{Run}
use Rattle.sz_cells.specs.Extent.{size_of}
use Rattle.sz_cells.proofs.Runs.{runs-length}
use Rattle.sz_region.proofs.Appending.{kept-first}
use Rattle.sz_region.proofs.Spelling.{end_of, end-more, run-kept}
use Rattle.sz_short.specs.ShortNumber.{short_number}
use Rattle.sz_short.specs.ShortSets.{short_run, short_runs}
use Rattle.sz_short.proofs.ShortRuns.{runs-read}
use Rattle.sz_short.proofs.sets.put_runs.Goals as goal

pub prove-unreachable-requires : goal.prove-unreachable-requires
prove-unreachable-requires c =
    omega (arith, runs-length (size_of c.args.shape.now) c.args.runs.now c.requires, c.size.ensures)

pub put_run-requires-clause-begins : goal.put_run-requires-clause-begins
put_run-requires-clause-begins c =
    let none : Run = record { first = 0; last = 0 } in
    let kept = run-kept (size_of c.args.shape.now) c.loop-run.run-index c.args.runs.now none (omega arith) c.requires in
    omega (arith, kept.0, c.loop-run.invariant.from)

pub put_run-requires-clause-order : goal.put_run-requires-clause-order
put_run-requires-clause-order c =
    let none : Run = record { first = 0; last = 0 } in
    (run-kept (size_of c.args.shape.now) c.loop-run.run-index c.args.runs.now none (omega arith) c.requires).1

pub returns-in_err-put_run-clause-err : goal.returns-in_err-put_run-clause-err
returns-in_err-put_run-clause-err c =
    let runs = c.args.runs.now in
    let kept = kept-first c.args.to.now.items
    (short_number (length runs) ++ short_runs 0 (take c.loop-run.run-index runs)) c.put_run.new.to.items
    (rw c.loop-run.invariant.items at c.in_err-put_run.ensures.err) in
    search rules

pub overflow_add-from : goal.overflow_add-from
overflow_add-from c =
    let none : Run = record { first = 0; last = 0 } in
    let kept = run-kept (size_of c.args.shape.now) c.loop-run.run-index c.args.runs.now none (omega arith) c.requires in
    omega (arith, kept.2, c.size.ensures)

pub loop-run-preserved : goal.loop-run-preserved
loop-run-preserved c =
    let runs = c.args.runs.now in
    let old = c.args.to.now.items in
    let i = c.loop-run.run-index in
    let inv = c.loop-run.invariant in
    let none : Run = record { first = 0; last = 0 } in
    let run : Run = get_or runs i none in
    let count = short_number (length runs) in
    let before = short_runs 0 (take i runs) in
    let word = short_run c.loop-run.from run in
    let longer : take (i + 1) runs ≡ take i runs ++ run ∷ [] = take_more runs i none (omega arith) in
    let more : before ++ word ≡ short_runs 0 (take (i + 1) runs) =
    ap (λ (k : ℕ). before ++ short_run k run) inv.from
    ∙ sym (ap (short_runs 0) longer ∙ runs-read 0 (take i runs) run) in
    record {
      items = c.in_ok-put_run.ensures.ok ∙ ap (λ (w : List ℕ). w ++ word) inv.items
          ∙ append_assoc old (count ++ before) word
          ∙ ap (λ (w : List ℕ). old ++ w) (append_assoc count before word ∙ ap (λ (w : List ℕ). count ++ w) more);
      from = sym (ap (end_of 0) longer ∙ end-more 0 (take i runs) run);
    }
