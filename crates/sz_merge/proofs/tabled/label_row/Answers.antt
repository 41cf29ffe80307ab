-- The runs of the output set are labelled one after another, and together they are the set.
use Rattle.std.proofs.Common.{◌≡◌, ◌∙◌, ◌+◌, ◌<◌, ℕ, List, [], get_or, refl, sym, ap, subst, arith, false}
use Rattle.std.proofs.lemmas.List.{take_all, get_or_default}
use Rattle.sz_cells.specs.declared.Run.{Run}
use Rattle.sz_cells.specs.Extent.{Extent, size_of}
use Rattle.sz_cells.specs.Cells.{Cells}
use Rattle.sz_cells.specs.Runs.{runs_of, covers, Spells}
use Rattle.sz_cells.specs.SetBytes.{IsSetOf}
use Rattle.sz_cells.proofs.Runs.{runs-at}
use Rattle.sz_cells.proofs.LawsOfSets.{runs-spell}
use Rattle.sz_cells.specs.Rising.{AreRising}
use Rattle.sz_tables.specs.Rows.{set_at}
use Rattle.sz_tables.specs.Scans.{pairing_at}
use Rattle.sz_tables.proofs.Scanned.{row-named}
use Rattle.sz_merge.specs.Marks.{IsNext, AreMarked}
use Rattle.sz_merge.proofs.Marked.{marked-none, marked-ext, runs-more, runs-all}
use Rattle.sz_merge.proofs.Listed.{runs-own}
use Rattle.sz_merge.proofs.tabled.label_row.Goals as goal

no_run : Run
no_run = record { first = 0; last = 0 }

pub overflow_add-label : goal.overflow_add-label
overflow_add-label c =
    let named = row-named c.args.table.now c.args.row c.len-label.ensures.named c.requires.row in
    omega (
      arith,
      named.ins 0 c.requires.input,
      c.sets_of-label.ensures.count,
      c.sets_of-label.type_inv,
      c.number_of-label.ensures,
    )

pub label_run-requires-clause-order : goal.label_run-requires-clause-order
unfolding no_run
label_run-requires-clause-order c =
    let t = c.args.table.now in
    let set = set_at t.outs c.out_number.result in
    (runs-at 0 (size_of t.out) c.out_runs-runs.result.now c.loop-run.run-index no_run
    (runs-own t.out set c.out_runs-runs.result.now c.out_runs-runs.ensures.set c.out_runs-runs.ensures.runs)
    c.loop-run-test.true).1

pub label_run-requires-clause-within : goal.label_run-requires-clause-within
unfolding no_run
label_run-requires-clause-within c =
    let t = c.args.table.now in
    let set = set_at t.outs c.out_number.result in
    let below = (runs-at 0 (size_of t.out) c.out_runs-runs.result.now c.loop-run.run-index no_run
    (runs-own t.out set c.out_runs-runs.result.now c.out_runs-runs.ensures.set c.out_runs-runs.ensures.runs)
    c.loop-run-test.true).2 in
    subst (λ (n : ℕ). (get_or c.out_runs-runs.result.now c.loop-run.run-index no_run).last < n)
    (sym (c.loop-run.invariant.long ∙ c.requires.size)) below

pub loop-run-init : goal.loop-run-init
loop-run-init c = record {
  long = refl;
  marked = λ ins r lists next.
      marked-ext ins r (λ k. false) (covers []) c.args.labels.now.items c.args.labels.now.items lists lists
      (λ k inside. refl) (marked-none ins r c.args.labels.now.items lists lists (λ n x at. at));
}

pub loop-run-preserved : goal.loop-run-preserved
unfolding no_run
loop-run-preserved c =
    let inv = c.loop-run.invariant in
    let old = c.args.labels.now.items in
    let runs = c.out_runs-runs.result.now in
    let i = c.loop-run.run-index in
    let run = get_or runs i no_run in
    let read : run ≡ get_or runs i run = get_or_default runs i no_run run c.loop-run-test.true in
    record {
      long = c.label_run.ensures.long ∙ inv.long;
      marked = λ ins r lists next.
          runs-more ins r runs i run old c.loop-run.labels.items c.label_run.new.labels.items lists lists lists
          c.loop-run-test.true read (inv.marked ins r lists next)
          (c.label_run.ensures.marked c.if-not-label_run.false ins r lists next);
    }

pub returns-clause-marked : goal.returns-clause-marked
returns-clause-marked c is ins lists next =
    let t = c.args.table.now in
    let r = pairing_at t c.args.row in
    let old = c.args.labels.now.items in
    let labels = c.loop-run.labels.items in
    let runs = c.out_runs-runs.result.now in
    let number = c.number_of-label.result in
    let named : set_at t.outs c.out_number.result ≡ r.out = ap (set_at t.outs) c.out_number.ensures in
    let own : IsSetOf t.out r.out = subst (IsSetOf t.out) named c.out_runs-runs.ensures.set in
    let whole : runs ≡ runs_of r.out.indexes =
    c.out_runs-runs.ensures.runs ∙ ap (λ (s : Cells). runs_of s.indexes) named in
    let rising : AreRising 0 (size_of r.out.extent) r.out.indexes =
    subst (λ (e : Extent). AreRising 0 (size_of e) r.out.indexes) (sym own.extent) own.rising in
    let spells : Spells runs r.out = subst (λ (rs : List Run). Spells rs r.out) (sym whole) (runs-spell r.out rising) in
    let first : IsNext ins r lists 0 (number + 1) =
    subst (λ (n : ℕ). IsNext ins r lists 0 (n + 1)) (sym c.number_of-label.ensures) next in
    let marked : AreMarked ins r (covers runs) old labels lists lists =
    subst (λ (rs : List Run). AreMarked ins r (covers rs) old labels lists lists)
    (take_all c.loop-run.run-index runs c.loop-run-test.false) (c.loop-run.invariant.marked ins r lists first) in
    runs-all ins r runs old labels lists lists spells (c.requires.size ∙ ap size_of (sym own.extent)) marked

pub returns-clause-shape : goal.returns-clause-shape
returns-clause-shape c is =
    (subst (λ (n : ℕ). IsSetOf c.args.table.now.out (set_at c.args.table.now.outs n)) c.out_number.ensures
    c.out_runs-runs.ensures.set).extent
