-- The runs of the output set are marked one after another, and together they are the set.
use Rattle.std.proofs.Common.{◌≡◌, ◌∙◌, ℕ, ◌<◌, List, [], length, get_or, take, refl, sym, ap, subst, arith, false}
use Rattle.std.proofs.lemmas.List.{take_all, get_or_default}
use Rattle.sz_cells.specs.declared.Run.{Run}
use Rattle.sz_cells.specs.Extent.{Extent, size_of}
use Rattle.sz_cells.specs.Cells.{Cells}
use Rattle.sz_cells.specs.Runs.{runs_of, covers, Spells, is_in}
use Rattle.sz_cells.proofs.Runs.{runs-at}
use Rattle.sz_frame.specs.Parts.{Pairing}
use Rattle.sz_merge.specs.Marks.{IsNext, AreMarked}
use Rattle.sz_merge.proofs.Marked.{marked-none, marked-ext, runs-more, runs-all, numbers-kept}
use Rattle.sz_merge.proofs.marking.mark.Goals as goal

no_run : Run
no_run = record { first = 0; last = 0 }

pub loop-run-init : goal.loop-run-init
loop-run-init c =
    let made = c.in_ok-last.ensures in
    let ins = c.args.lineages.now.ins in
    let r = c.args.region.now in
    let labels = c.args.labels.now.items in
    let before = c.args.lineages.now.lists in
    let after = c.new_step.new.lineages.lists in
    record {
      ins = made.ins;
      marked = marked-ext ins r (λ k. false) (covers []) labels labels before after (λ k inside. refl)
          (marked-none ins r labels before after made.kept);
      last = made.next;
      numbers = numbers-kept labels before after c.requires.numbers made.kept;
    }

pub mark_run-requires-clause-ins : goal.mark_run-requires-clause-ins
mark_run-requires-clause-ins c = c.requires.ins ∙ sym c.loop-run.invariant.ins

pub mark_run-requires-clause-last : goal.mark_run-requires-clause-last
mark_run-requires-clause-last c =
    subst (λ (es : List Extent). IsNext es c.args.region.now c.loop-run.lineages.lists c.loop-run.last.from
    c.loop-run.last.to) (sym c.loop-run.invariant.ins) c.loop-run.invariant.last

pub mark_run-requires-clause-order : goal.mark_run-requires-clause-order
unfolding no_run
mark_run-requires-clause-order c =
    let runs = c.runs-run-items.result.now in
    (runs-at 0 (size_of c.deref.result.now.extent) runs c.loop-run.run-index no_run
    c.runs-run-items.ensures.spelled.longest
    c.loop-run-test.true).1

pub mark_run-requires-clause-within : goal.mark_run-requires-clause-within
unfolding no_run
mark_run-requires-clause-within c =
    let runs = c.runs-run-items.result.now in
    let out : c.deref.result.now ≡ c.args.region.now.out =
    c.deref.ensures ∙ ap (λ (p : Pairing). p.out) c.region.view_is in
    let below = (runs-at 0 (size_of c.deref.result.now.extent) runs c.loop-run.run-index no_run
    c.runs-run-items.ensures.spelled.longest c.loop-run-test.true).2 in
    let size : size_of c.deref.result.now.extent ≡ length c.loop-run.labels.items =
    ap (λ (s : Cells). size_of s.extent) out ∙ sym c.requires.size ∙ sym c.loop-run.invariant.marked.long in
    subst (λ (n : ℕ). (get_or runs c.loop-run.run-index no_run).last < n) size below

pub mark_run-requires-clause-numbers : goal.mark_run-requires-clause-numbers
mark_run-requires-clause-numbers c = c.loop-run.invariant.numbers

pub loop-run-preserved : goal.loop-run-preserved
unfolding no_run
loop-run-preserved c =
    let inv = c.loop-run.invariant in
    let made = c.in_ok-last-2.ensures in
    let ins = c.args.lineages.now.ins in
    let r = c.args.region.now in
    let i = c.loop-run.run-index in
    let runs = c.runs-run-items.result.now in
    let out : c.deref.result.now ≡ r.out = c.deref.ensures ∙ ap (λ (p : Pairing). p.out) c.region.view_is in
    let whole : runs ≡ runs_of r.out.indexes =
    c.runs-run-items.ensures.only ∙ ap (λ (s : Cells). runs_of s.indexes) out in
    let run = get_or runs i no_run in
    let read : run ≡ get_or (runs_of r.out.indexes) i run =
    get_or_default runs i no_run run c.loop-run-test.true ∙ ap (λ (rs : List Run). get_or rs i run) whole in
    let inside : i < length (runs_of r.out.indexes) =
    subst (λ (rs : List Run). i < length rs) whole c.loop-run-test.true in
    let more : AreMarked ins r (is_in run) c.loop-run.labels.items c.mark_run.new.labels.items c.loop-run.lineages.lists
    c.mark_run.new.lineages.lists =
    subst (λ (es : List Extent). AreMarked es r (is_in run) c.loop-run.labels.items c.mark_run.new.labels.items
    c.loop-run.lineages.lists c.mark_run.new.lineages.lists) inv.ins made.ok in
    record {
      ins = made.ins ∙ inv.ins;
      marked = runs-more ins r (runs_of r.out.indexes) i run c.args.labels.now.items c.loop-run.labels.items
          c.mark_run.new.labels.items c.args.lineages.now.lists c.loop-run.lineages.lists c.mark_run.new.lineages.lists
          inside read inv.marked more;
      last = subst (λ (es : List Extent). IsNext es r c.mark_run.new.lineages.lists c.in_ok-last-2.last.from
          c.in_ok-last-2.last.to) inv.ins made.last;
      numbers = made.numbers;
    }

pub returns-clause-ok : goal.returns-clause-ok
returns-clause-ok c =
    let inv = c.loop-run.invariant in
    let ins = c.args.lineages.now.ins in
    let r = c.args.region.now in
    let i = c.loop-run.run-index in
    let runs = c.runs-run-items.result.now in
    let out : c.deref.result.now ≡ r.out = c.deref.ensures ∙ ap (λ (p : Pairing). p.out) c.region.view_is in
    let whole : runs ≡ runs_of r.out.indexes =
    c.runs-run-items.ensures.only ∙ ap (λ (s : Cells). runs_of s.indexes) out in
    let spells : Spells (runs_of r.out.indexes) r.out =
    subst (λ (rs : List Run). Spells rs r.out) whole
    (subst (λ (s : Cells). Spells runs s) out c.runs-run-items.ensures.spelled) in
    let all : take i (runs_of r.out.indexes) ≡ runs_of r.out.indexes =
    take_all i (runs_of r.out.indexes) (omega (arith, ap length whole, c.loop-run-test.false)) in
    let marked : AreMarked ins r (covers (runs_of r.out.indexes)) c.args.labels.now.items c.loop-run.labels.items
    c.args.lineages.now.lists c.loop-run.lineages.lists =
    subst (λ (rs : List Run). AreMarked ins r (covers rs) c.args.labels.now.items c.loop-run.labels.items
    c.args.lineages.now.lists c.loop-run.lineages.lists) all inv.marked in
    runs-all ins r (runs_of r.out.indexes) c.args.labels.now.items c.loop-run.labels.items c.args.lineages.now.lists
    c.loop-run.lineages.lists spells c.requires.size marked

pub returns-clause-numbers : goal.returns-clause-numbers
returns-clause-numbers c = c.loop-run.invariant.numbers

pub returns-clause-ins : goal.returns-clause-ins
returns-clause-ins c = c.loop-run.invariant.ins
