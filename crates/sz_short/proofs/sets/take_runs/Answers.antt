-- One run more stands behind those before it, and where it does not, no set begins.
use Rattle.std.proofs.Common.{◌≡◌, ℕ, length, refl, ap, sym, subst, ◌∙◌, arith}
use Rattle.std.proofs.lemmas.List.{length_push}
use Rattle.sz_cells.specs.declared.Run.{Run}
use Rattle.sz_cells.specs.Extent.{size_of}
use Rattle.sz_cells.specs.Runs.{AreRunsFrom}
use Rattle.sz_region.specs.Counted.{IsAt}
use Rattle.sz_region.specs.Stores.{NoneAt}
use Rattle.sz_region.proofs.Spans.{at-both}
use Rattle.sz_region.proofs.Spelling.{end_of, runs-more, end-more}
use Rattle.sz_short.specs.ShortSets.{short_run, short_runs, IsRunFrom}
use Rattle.sz_short.proofs.ShortRuns.{none-number, none-next, runs-read}
use Rattle.sz_short.proofs.sets.take_runs.Goals as goal

pub returns-in_default-clause-err : goal.returns-in_default-clause-err
returns-in_default-clause-err c = (
  refl,
  none-number c.args.shape.now c.args.bytes.now c.args.at (omega (arith, c.size-size.ensures))
      c.in_default.ensures.none,
)

pub returns-in_default-take_run-clause-err : goal.returns-in_default-take_run-clause-err
returns-in_default-take_run-clause-err c =
    let inv = c.loop-index.invariant in
    let runs = c.loop-index.runs.items in
    let bytes = c.args.bytes.now in
    let size : c.size-size.result ≡ size_of c.args.shape.now = c.size-size.ensures.value in
    let none : NoneAt (IsRunFrom (end_of 0 runs) (size_of c.args.shape.now)) (short_run (end_of 0 runs)) bytes
    c.loop-index.place =
    subst (λ (k : ℕ). NoneAt (IsRunFrom k (size_of c.args.shape.now)) (short_run k) bytes c.loop-index.place) inv.least
    (subst (λ (k : ℕ). NoneAt (IsRunFrom c.loop-index.least k) (short_run c.loop-index.least) bytes c.loop-index.place)
    size c.in_default-take_run.ensures.none) in (
      refl,
      none-next c.args.shape.now bytes c.args.at c.in-Some.first c.loop-index.place c.in-Some.count runs
          (omega (arith, c.size-size.ensures)) (omega arith) c.in-Some.ensures.some inv.longest inv.bytes (omega arith)
          none,
    )

pub loop-index-preserved : goal.loop-index-preserved
loop-index-preserved c =
    let inv = c.loop-index.invariant in
    let runs = c.loop-index.runs.items in
    let bytes = c.args.bytes.now in
    let run : Run = c.in-Some-take_run.run' in
    let is = c.in-Some-take_run.ensures.run in
    let longer = c.in_ok-push.ensures.items in
    let size : c.size-size.result ≡ size_of c.args.shape.now = c.size-size.ensures.value in
    record {
      count = omega (arith, ap length longer, length_push runs run, inv.count);
      longest = subst (AreRunsFrom 0 (size_of c.args.shape.now)) (sym longer)
          (runs-more 0 (size_of c.args.shape.now) runs run inv.longest (omega (arith, inv.least, is.begins)) is.order
          (omega (arith, is.ends)));
      least = sym (ap (end_of 0) longer ∙ end-more 0 runs run);
      bytes = subst (IsAt bytes c.in-Some.first c.in-Some-take_run.next)
          (sym (ap (short_runs 0) longer ∙ runs-read 0 runs run))
          (at-both bytes c.in-Some.first c.loop-index.place c.in-Some-take_run.next (short_runs 0 runs)
          (short_run (end_of 0 runs) run) inv.bytes
          (subst (λ (k : ℕ). IsAt bytes c.loop-index.place c.in-Some-take_run.next (short_run k run)) inv.least
          c.in-Some-take_run.ensures.some));
    }
