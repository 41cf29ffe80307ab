-- The word of one set more stands behind the others.
use Rattle.std.proofs.Common.{◌≡◌, ◌∙◌, ◌<◌, ◌++◌, ℕ, List, map, take, length, get_or, sym, ap, subst, arith}
use Rattle.std.proofs.Common.{append_assoc}
use Rattle.std.specs.Arc.{arc_value}
use Rattle.std.proofs.lemmas.List.{length-map}
use Rattle.std.proofs.lemmas.List.Elements.{All-more}
use Rattle.sz_cells.specs.Cells.{Cells}
use Rattle.sz_cells.specs.SetBytes.{IsSetOf, set_bytes}
use Rattle.sz_tables.proofs.Taking.{read-map}
use Rattle.sz_merge.specs.Lineages.{spelling}
use Rattle.sz_merge.proofs.Sets.{spelling-more}
use Rattle.sz_merge.proofs.lineages.put_sets.Goals as goal

pub loop-set-preserved : goal.loop-set-preserved
loop-set-preserved c =
    let sets = c.args.sets.now in
    let i = c.loop-set.set-index in
    let xs : List Cells = map (λ a. arc_value a) sets in
    let x : Cells = c.deref-in-loop-set.result.now in
    let y : Cells = c.deref.result.now in
    let inside : i < length xs = omega (arith, length-map sets (λ a. arc_value a), c.loop-set-test.true) in
    let here : get_or xs i x ≡ x =
    read-map (λ a. arc_value a) sets i c.set-item.result x x c.loop-set-test.true c.set-item.is
    c.deref-in-loop-set.ensures
    in
    let there : get_or xs i y ≡ y =
    read-map (λ a. arc_value a) sets i c.set-item.result y y c.loop-set-test.true c.set-item.is c.deref.ensures in
    let old = c.args.to.now.items in
    record {
      put =
          c.in_ok-put_set.ensures.ok ∙ ap (λ (b : List ℕ). b ++ set_bytes x) c.loop-set.invariant.put
          ∙ append_assoc old (spelling (take i xs)) (set_bytes x)
          ∙ ap (λ (b : List ℕ). old ++ b) (sym (spelling-more xs i x inside here));
      right =
          All-more (λ (s : Cells). IsSetOf s.extent s) xs i y inside c.loop-set.invariant.right
          (subst (λ (s : Cells). IsSetOf s.extent s) (sym there) c.a_set_is_its_cells.ensures.rising);
    }
