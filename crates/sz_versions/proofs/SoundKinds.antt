-- Stores that stand for the relation tell the kinds of the version.
--
-- The key idea: how many kinds a store has is settled by what it stands for, which is the relation of the node's
-- execution; and a store that keeps region pairs is one of full lineage.
use Rattle.std.proofs.Common.{◌≡◌, ℕ, suc, List, [], ◌∷◌, ◌++◌, map, length, Bool, true, false, refl, sym, ap, ap₂, ◌∙◌}
use Rattle.std.proofs.Common.{cond, subst, Option, Some, None, true≢false, arith}
use Rattle.std.specs.List.{All, AllZip, filter}
use Rattle.std.proofs.lemmas.List.Elements.{All-head, All-tail}
use Rattle.sz_spec.specs.declared.flow.Node.{Node}
use Rattle.sz_spec.specs.declared.modes.Strategy.{Strategy}
use Rattle.sz_spec.specs.declared.modes.Strategy.TheVariants as strategy
use Rattle.sz_spec.specs.Kinds.{kinds_of}
use Rattle.sz_spec.specs.Shapes.{Site}
use Rattle.sz_store.specs.Kept.{Holding, regions, entries, Keep, NodeLineage, stored_in}
use Rattle.sz_flow.specs.Executions.{Execution, execution}
use Rattle.sz_flow.proofs.Executions.{executions-count}
use Rattle.sz_merge.specs.Stood.{kinds_held, kinds_kept}
use Rattle.sz_merge.proofs.Stood.{AreOver, kinds-related}
use Rattle.sz_catalogue.specs.Holdings.{Version, arrays_of}
use Rattle.sz_catalogue.specs.Merges.{is_full, kinds_in_node, kinds_among}
use Rattle.sz_bodies.specs.Fitting.{FitsNode, FitNodes}
use Rattle.sz_recover.specs.Soundness.{IsExact, IsSoundNode}
use Rattle.sz_versions.specs.Runs.{executions_of}
use Rattle.sz_versions.specs.Recalled.{HasEachStore}
use Rattle.sz_versions.specs.Merging.{kinds_recalled, holds_pairs, HasEachHolding, SoundStoresTellTheKinds}
use Rattle.sz_versions.proofs.MergedNodes.{fit-executed}
use Rattle.sz_versions.proofs.MergedKinds.{none-full, taken_by, AreExecuted, executed}

-- ---- the stores of a node

full-stored : (list : List Strategy) → filter is_full (stored_in list) ≡ filter is_full list
full-stored [] = refl
full-stored (strategy.Map ∷ list) = full-stored list
full-stored (strategy.FullOneB ∷ list) = ap (λ (ts : List Strategy). strategy.FullOneB ∷ ts) (full-stored list)
full-stored (strategy.FullOneF ∷ list) = ap (λ (ts : List Strategy). strategy.FullOneF ∷ ts) (full-stored list)
full-stored (strategy.FullManyB ∷ list) = ap (λ (ts : List Strategy). strategy.FullManyB ∷ ts) (full-stored list)
full-stored (strategy.FullManyF ∷ list) = ap (λ (ts : List Strategy). strategy.FullManyF ∷ ts) (full-stored list)
full-stored (strategy.PayOne ∷ list) = full-stored list
full-stored (strategy.PayMany ∷ list) = full-stored list
full-stored (strategy.CompOne ∷ list) = full-stored list
full-stored (strategy.CompMany ∷ list) = full-stored list
full-stored (strategy.BlackBox ∷ list) = full-stored list

-- one of region pairs has the kinds of the execution, one of entries is not asked
store-held : (e : Execution) (h : Holding) (b : Bool) → AreOver e.site e.inputs → holds_pairs h ≡ b → IsExact e h
    → kinds_held e.site h ≡ map (λ (n : ℕ). kinds_of e.site.op e.inputs) (filter (λ (n : ℕ). b) (0 ∷ []))
store-held e (regions rs) true over holds exact =
    ap (λ (n : ℕ). n ∷ []) (kinds-related e.site e.inputs _ over exact)
store-held e (regions rs) false over holds exact = absurd (true≢false holds)
store-held e (entries comp es) true over holds exact = absurd (true≢false (sym holds))
store-held e (entries comp es) false over holds exact = refl

stores-held : (e : Execution) (fs : List Keep) → AreOver e.site e.inputs
    → All (λ f. holds_pairs f.holding ≡ is_full f.strategy) fs → All (λ f. IsExact e f.holding) fs
    → kinds_kept e.site fs
    ≡ map (λ (s : Strategy). kinds_of e.site.op e.inputs) (filter is_full (map (λ f. f.strategy) fs))
stores-held e [] over holds exact = refl
stores-held e (f ∷ fs) over holds exact =
    let Holds : Keep → Type 0 = λ (g : Keep). holds_pairs g.holding ≡ is_full g.strategy in
    let Exact : Keep → Type 0 = λ (g : Keep). IsExact e g.holding in
    let one =
    store-held e f.holding (is_full f.strategy) over (All-head Holds f fs holds) (All-head Exact f fs exact) in
    let rest = stores-held e fs over (All-tail Holds f fs holds) (All-tail Exact f fs exact) in
    ap₂ (λ (a b : List ℕ). a ++ b) one rest ∙ at (is_full f.strategy) where
      told : List Strategy → List ℕ
      told = map (λ (s : Strategy). kinds_of e.site.op e.inputs)

      more : List Strategy
      more = filter is_full (map (λ (g : Keep). g.strategy) fs)

      at : (b : Bool)
          → map (λ (n : ℕ). kinds_of e.site.op e.inputs) (filter (λ (n : ℕ). b) (0 ∷ [])) ++ told more
          ≡ told (cond b (f.strategy ∷ more) more)
      at true = refl
      at false = refl

node-held : (v : Version) (x : Node) (e : Execution) (list : List Strategy) (kept : Option NodeLineage)
    (rest : List (Option NodeLineage)) → e ≡ execution x.op (taken_by v x) → FitsNode e.site list kept
    → HasEachStore kept → HasEachHolding kept → IsSoundNode e kept
    → kinds_recalled (kept ∷ rest) ≡ kinds_in_node v x list ++ kinds_recalled rest
node-held v x e list None rest is fits each holds sound =
    ap (λ (ts : List Strategy). map (λ (s : Strategy). kinds_of x.op (taken_by v x)) ts ++ kinds_recalled rest)
    (sym (none-full list fits))
node-held v x e list (Some k) rest is fits each holds sound =
    let over : AreOver e.site e.inputs = subst (λ (d : Execution). AreOver d.site d.inputs) (sym is)
    (record { shape = refl; inputs_shapes = refl }) in
    let told : List Strategy → List ℕ = map (λ (s : Strategy). kinds_of e.site.op e.inputs) in
    ap (λ (ks : List ℕ). ks ++ kinds_recalled rest) (
    ap (λ (s : Site). kinds_kept s k.stores) fits.1.site
    ∙ stores-held e k.stores over holds sound
    ∙ ap (λ (ts : List Strategy). told (filter is_full ts)) each
    ∙ ap told (full-stored k.list ∙ ap (filter is_full) fits.1.own)
    ∙ ap (λ (d : Execution). map (λ (s : Strategy). kinds_of d.site.op d.inputs) (filter is_full list)) is
    )

-- ---- of all nodes

nodes-held : (v : Version) (nodes : List Node) (es : List Execution) (lists : List (List Strategy))
    (stores : List (Option NodeLineage)) → length es ≡ length nodes → AreExecuted v nodes es
    → FitNodes (map (λ (e : Execution). e.site) es) lists stores → All HasEachStore stores → All HasEachHolding stores
    → AllZip IsSoundNode es stores → kinds_recalled stores ≡ kinds_among v nodes lists
nodes-held v [] [] [] [] long at fit each holds sound = refl
nodes-held v [] (e ∷ es) lists stores long at fit each holds sound = absurd (omega (arith, long))
nodes-held v (x ∷ nodes) [] lists stores long at fit each holds sound = absurd (omega (arith, long))
nodes-held v (x ∷ nodes) (e ∷ es) (l ∷ lists) (k ∷ stores) long at fit each holds sound =
    let here : Some e ≡ Some (execution x.op (taken_by v x)) = at 0 x refl in
    let is : e ≡ execution x.op (taken_by v x) = cc in
    let rest : length es ≡ length nodes = omega (arith, long) in
    node-held v x e l k stores is fit.0 (All-head HasEachStore k stores each) (All-head HasEachHolding k stores holds)
    sound.0
    ∙ ap (λ (ks : List ℕ). kinds_in_node v x l ++ ks)
    (nodes-held v nodes es lists stores rest (λ n y there. at (suc n) y there) fit.1
    (All-tail HasEachStore k stores each) (All-tail HasEachHolding k stores holds) sound.1)
nodes-held v _ _ _ _ long at fit each holds sound = absurd fit

-- the law
pub sound-told : SoundStoresTellTheKinds
sound-told v stores sound fit each holds exact =
    nodes-held v v.flow.nodes (executions_of v) v.lists stores (executions-count v.flow (arrays_of v.base))
    (executed v sound) (fit-executed v stores sound fit) each holds exact
