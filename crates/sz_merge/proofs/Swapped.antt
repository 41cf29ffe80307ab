-- Merged stores may stand in the place of those that they were made of.
--
-- The key idea: each of them stands for the same as the one before, so where that stands for exactly the relation, so
-- does this.
use Rattle.std.proofs.Common.{◌≡◌, ◌∙◌, ℕ, List, [], ◌∷◌, map, refl, sym, ap₂, subst, All}
use Rattle.std.specs.List.{AllZip}
use Rattle.std.proofs.lemmas.List.Elements.{All-head, All-tail, All-cons, All-nil}
use Rattle.sz_spec.specs.declared.modes.Strategy.{Strategy}
use Rattle.sz_spec.specs.Values.{Grid}
use Rattle.sz_spec.specs.Shapes.{Site}
use Rattle.sz_frame.specs.Images.{measure_of}
use Rattle.sz_frame.specs.Laws.{IsTheRelation}
use Rattle.sz_store.specs.Kept.{Holding, regions, entries, Keep, NodeLineage, holding_stands}
use Rattle.sz_shelf.specs.Tags.{Tag, StandsFor}
use Rattle.sz_merge.specs.Merged.{IsMergedTo, IsMergedKeep, AreMerged}

same-strategies : (s : Site) (xs ys : List Keep) → AllZip (IsMergedKeep s) xs ys
    → map (λ f. f.strategy) ys ≡ map (λ f. f.strategy) xs
same-strategies s [] [] each = refl
same-strategies s [] (y ∷ ys) each = absurd each
same-strategies s (x ∷ xs) [] each = absurd each
same-strategies s (x ∷ xs) (y ∷ ys) each =
    ap₂ (λ (t : Strategy) (ts : List Strategy). t ∷ ts) each.0.0 (same-strategies s xs ys each.1)

-- what is merged stands for the relation where what it was made of does
exact-one : (s : Site) (inputs : List Grid) (h k : Holding) → IsMergedTo s h k
    → IsTheRelation (measure_of s inputs) (holding_stands s h)
    → IsTheRelation (measure_of s inputs) (holding_stands s k)
exact-one s inputs (regions rs) (regions ms) merged exact =
    λ i o x inside out held. merged.0 i o x inside ∙ exact i o x inside out held
exact-one s inputs (regions rs) (entries comp es) merged exact = absurd merged
exact-one s inputs (entries comp es) k merged exact =
    subst (λ (h : Holding). IsTheRelation (measure_of s inputs) (holding_stands s h)) (sym merged) exact

abbrev IsExact : Site → List Grid → Keep → Type 0
IsExact s inputs f = IsTheRelation (measure_of s inputs) (holding_stands s f.holding)

exact-each : (s : Site) (inputs : List Grid) (xs ys : List Keep) → AllZip (IsMergedKeep s) xs ys
    → All (IsExact s inputs) xs → All (IsExact s inputs) ys
exact-each s inputs [] [] each exact = All-nil (IsExact s inputs)
exact-each s inputs [] (y ∷ ys) each exact = absurd each
exact-each s inputs (x ∷ xs) [] each exact = absurd each
exact-each s inputs (x ∷ xs) (y ∷ ys) each exact =
    All-cons (IsExact s inputs) y ys
    (exact-one s inputs x.holding y.holding each.0.1 (All-head (IsExact s inputs) x xs exact))
    (exact-each s inputs xs ys each.1 (All-tail (IsExact s inputs) x xs exact))

pub stands-merged : (t : Tag) (s : Site) (list : List Strategy) (before after : NodeLineage) (bytes kinds : List ℕ)
    → StandsFor t before → t.site ≡ s → t.list ≡ list → AreMerged s list before.stores after bytes kinds
    → StandsFor t after
stands-merged t s list before after bytes kinds stands site own merged =
    let each : AllZip (IsMergedKeep t.site) before.stores after.stores =
    subst (λ (x : Site). AllZip (IsMergedKeep x) before.stores after.stores) (sym site) merged.each in
    record {
      site = merged.site ∙ sym site;
      list = merged.same_list ∙ sym own;
      stored = same-strategies t.site before.stores after.stores each ∙ stands.stored;
      whole = merged.whole;
      exact = exact-each t.site t.inputs before.stores after.stores each stands.exact;
    }
