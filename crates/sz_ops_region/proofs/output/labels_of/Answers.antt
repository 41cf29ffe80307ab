-- The label of each cell is that of its root.
use Rattle.std.proofs.Common.{ℕ, List, Option, ◌++◌, ◌∷◌, [], Some, refl, ap, ap₂, sym, ◌∙◌, arith}
use Rattle.std.specs.Prelude.{ℤ, pos}
use Rattle.std.proofs.lemmas.List.FromFn.{map-range_with_len_more}
use Rattle.sz_ops_region.specs.Links.{label_by}
use Rattle.sz_ops_region.proofs.Settled.{settled-first, settled-label, settled-next, settled-down}
use Rattle.sz_ops_region.proofs.output.labels_of.Goals as goal

pub settle-label-requires-clause-down : goal.settle-label-requires-clause-down
settle-label-requires-clause-down c p is =
    settled-down c.args.words.now c.loop-index.words c.loop-index.index p c.loop-index.invariant.settled is

pub loop-index-preserved : goal.loop-index-preserved
loop-index-preserved c =
    let inv = c.loop-index.invariant in
    let first = c.args.words.now in
    let n = c.loop-index.index in
    record {
      end = inv.end ∙ sym c.settle-label.auto.words;
      settled = settled-next first c.loop-index.words c.settle-label.new.words n c.settle-label.result inv.settled
          (omega (arith, inv.end, c.loop-index-test.true)) c.settle-label.ensures.word c.settle-label.ensures.words;
      made = λ root roots. c.in_ok-push.ensures.items
          ∙ ap₂ (λ (xs : List (Option ℤ)) (v : Option ℤ). xs ++ v ∷ []) (inv.made root roots)
          (c.value_of.ensures ∙ ap (λ (k : ℕ). Some (pos k)) (c.settle-label.ensures.word
          ∙ settled-label first c.loop-index.words root n inv.settled roots))
          ∙ sym (map-range_with_len_more (λ k. Some (pos (label_by first root k))) 0 n n (omega arith));
    }

pub loop-index-init : goal.loop-index-init
loop-index-init c = record {
  end = refl;
  settled = settled-first c.args.words.now c.requires;
  made = λ root roots. c.in_ok-reserve.ensures.items ∙ c.new-cells.ensures.items;
}
