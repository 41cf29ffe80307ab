-- One entry more.
use Rattle.std.proofs.Common.{◌≡◌, ℕ, refl, ap, ◌∙◌, arith, inl, inr, map, get_or}
use Rattle.std.proofs.lemmas.Bool.{cases_lt}
use Rattle.std.proofs.lemmas.List.{get_or_default}
use Rattle.std.specs.Arc.{arc_value}
use Rattle.sz_frame.specs.Parts.{Entry}
use Rattle.sz_tables.specs.Rows.{runs_in}
use Rattle.sz_tables.specs.Stores.{cells_in}
use Rattle.sz_tables.proofs.Counted.{item-made, sum-more}
use Rattle.sz_payload.proofs.counting.runs_of_all.Goals as goal

pub loop-entry-preserved : goal.loop-entry-preserved
loop-entry-preserved c =
    let es = map (λ a. arc_value a) c.args.entries.now in
    let i = c.loop-entry.entry-index in
    let e = c.deref.result.now in
    let there = item-made (λ a. arc_value a) c.args.entries.now es i c.entry-item.result e refl
    c.loop-entry-test.true c.entry-item.is c.deref.ensures in
    let runs = sum-more (λ (x : Entry). runs_in x.out) es i e there in
    let cells = sum-more (λ (x : Entry). cells_in x.out) es i e there in
    let more = c.runs_of_set-runs.ensures in
    let same : c.deref-in-loop-entry.result.now ≡ e.out =
    c.deref-in-loop-entry.ensures ∙ ap (λ (x : Entry). x.out) c.behind-entry.view_is in
    record {
      runs = omega (arith, c.loop-entry.invariant.runs, runs, more.runs, ap runs_in same);
      few = omega (arith, c.loop-entry.invariant.few, more.few);
      cells = omega (arith, c.loop-entry.invariant.cells, cells, more.cells, ap cells_in same);
      each = λ n d below inside.
          elim (cases_lt n i) [
            | inl low ↦ c.loop-entry.invariant.each n d low inside
            | inr at ↦
                let here : n ≡ i = omega arith in
                let own : get_or es n d ≡ e =
                ap (λ (k : ℕ). get_or es k d) here ∙ get_or_default es i d e there.0 ∙ there.1 in
                rw own (omega (arith, more.cells, more.runs, ap cells_in same, ap runs_in same))
          ];
    }
