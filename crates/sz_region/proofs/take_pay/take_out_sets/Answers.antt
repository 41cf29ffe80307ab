-- One more set stands behind those before it.
use Rattle.std.proofs.Common.{◌≡◌, ℕ, ◌+◌, List, [], ◌∷◌, ◌++◌, length, map, ap, sym, subst, ◌∙◌, arith}
use Rattle.std.specs.Arc.{arc_value}
use Rattle.std.specs.List.{All, flat_map}
use Rattle.std.proofs.lemmas.List.{length-map, length_push, map_push}
use Rattle.std.proofs.lemmas.List.Elements.{All-push}
use Rattle.std.proofs.lemmas.Result.{err_from_is_err_and}
use Rattle.sz_cells.specs.Cells.{Cells}
use Rattle.sz_cells.specs.SetBytes.{IsSetOf, set_bytes}
use Rattle.sz_region.specs.Counted.{IsAt}
use Rattle.sz_region.proofs.Spans.{at-more, at-set, on_bad-weaker, on_bad-set, no-number, no-table}
use Rattle.sz_region.proofs.PayStores.{set-free, no-set}
use Rattle.sz_region.proofs.take_pay.take_out_sets.Goals as goal

pub returns-in_default-clause-err : goal.returns-in_default-clause-err
returns-in_default-clause-err c sets rest few is =
    no-number c.args.bytes.now c.args.at (length sets) (flat_map set_bytes sets ++ rest) c.in_default.ensures.none is

pub returns-in_err-set-clause-err : goal.returns-in_err-set-clause-err
returns-in_err-set-clause-err c =
    let inv = c.loop-index.invariant in
    let sets = map (λ s. arc_value s) c.loop-index.table.items in
    let long : length sets ≡ c.loop-index._index = length-map c.loop-index.table.items (λ s. arc_value s) ∙ inv.count in
    let none = on_bad-weaker c.in_err-set.field-0.0
    (λ missing. no-table (IsSetOf c.args.out) set_bytes (set-free c.args.out c.requires) c.args.bytes.now c.args.at
    c.in-Some.count c.loop-index.place sets c.in-Some.ensures.some (omega arith) inv.each inv.bytes
    (no-set c.args.out c.args.bytes.now c.loop-index.place missing) (omega arith))
    (on_bad-set c.args.out c.args.bytes.now c.loop-index.place c.in_err-set.field-0.0 c.in_err-set.ensures.err) in
    let p = err_from_is_err_and c.from_residual.result c.from_residual.ensures.1 in
    rw (p.1, p.2) none

pub loop-index-preserved : goal.loop-index-preserved
loop-index-preserved c =
    let inv = c.loop-index.invariant in
    let items = c.loop-index.table.items in
    let sets = map (λ s. arc_value s) items in
    let set : Cells = c.in_ok-set.set in
    let begins = c.in_ok-set.ensures.ok in
    let all : map (λ s. arc_value s) c.push.new.self.items ≡ sets ++ set ∷ [] =
    ap (map (λ s. arc_value s)) c.in_ok-push.ensures.items ∙ map_push (λ s. arc_value s) items c.in_ok-new.field-0
    ∙ ap (λ (x : Cells). sets ++ x ∷ []) c.in_ok-new.ensures.ok in
    record {
      count = omega (arith, ap length c.in_ok-push.ensures.items, length_push items c.in_ok-new.field-0, inv.count);
      each = subst (All (IsSetOf c.args.out)) (sym all) (All-push (IsSetOf c.args.out) sets set inv.each begins.is_set);
      bytes = subst (λ (ss : List Cells). IsAt c.args.bytes.now (c.args.at + 4) c.in_ok-set.next
          (flat_map set_bytes ss))
          (sym all)
          (at-more set_bytes c.args.bytes.now (c.args.at + 4) c.loop-index.place c.in_ok-set.next sets set inv.bytes
          (at-set c.args.out c.args.bytes.now c.loop-index.place c.in_ok-set.next set begins
          c.in_ok-set.ensures.within));
    }
