-- One set more has a cell.
use Rattle.std.proofs.Common.{◌≡◌, ◌≢◌, ◌≤◌, ◌∙◌, [], ◌<◌, length, get_or, All, sym, subst, arith}
use Rattle.std.proofs.lemmas.List.{take_all, get_or_default}
use Rattle.std.proofs.lemmas.List.Elements.{All-more}
use Rattle.std.proofs.lemmas.Option.{unwrap_or-slice_get}
use Rattle.sz_cells.specs.Cells.{Cells, no_cells}
use Rattle.sz_cells.specs.SetBytes.{IsSetOf}
use Rattle.sz_spec.specs.Values.{extent_at, no_extent}
use Rattle.sz_tables.specs.Rows.{set_at, sets_of}
use Rattle.sz_merge.proofs.Further.{some-cell}
use Rattle.sz_merge.proofs.tabled.have_cells.Goals as goal

pub loop-number-preserved : goal.loop-number-preserved
loop-number-preserved c =
    let e = extent_at c.args.table.now.ins 0 in
    let k = c.loop-number.number in
    let inv = c.loop-number.invariant in
    let sets = sets_of c.args.table.now.sets 0 in
    let set = set_at sets k in
    let d = no_cells no_extent in
    let inside : k < length sets = omega (arith, c.sets_of-number-end.ensures.count, c.loop-number-test.true) in
    let here : get_or sets k set ≡ set = get_or_default sets k set d inside ∙ sym (unwrap_or-slice_get sets k d) in
    let some : set.indexes ≢ [] =
    some-cell set c.in_runs.result.now c.is_empty.result c.in_runs.ensures.runs c.is_empty.ensures
    c.if-is_empty.false in
    record {
      sets =
          All-more (IsSetOf e) sets k set inside inv.sets (subst (IsSetOf e) (sym here) c.in_runs.ensures.set);
      some =
          All-more (λ (s : Cells). s.indexes ≢ []) sets k set inside inv.some
          (subst (λ (s : Cells). s.indexes ≢ []) (sym here) some);
    }

pub returns-clause-some : goal.returns-clause-some
returns-clause-some c =
    let sets = sets_of c.args.table.now.sets 0 in
    let k = c.loop-number.number in
    let enough : length sets ≤ k = omega (arith, c.sets_of-number-end.ensures.count, c.loop-number-test.false) in
    λ is. subst (All (λ (s : Cells). s.indexes ≢ [])) (take_all k sets enough) c.loop-number.invariant.some

pub returns-clause-sets : goal.returns-clause-sets
returns-clause-sets c =
    let sets = sets_of c.args.table.now.sets 0 in
    let k = c.loop-number.number in
    let enough : length sets ≤ k = omega (arith, c.sets_of-number-end.ensures.count, c.loop-number-test.false) in
    λ is. subst (All (IsSetOf (extent_at c.args.table.now.ins 0))) (take_all k sets enough)
    c.loop-number.invariant.sets
