-- The numbers that are told of merged stores are those of the kinds of lineage.
--
-- The key idea: once a store with region pairs is merged its pairs are the kinds, and they stand for what the store
-- before stood for. So their number is that of its kinds; where it stood for an operator's relation, of the operator's.
-- A store with region pairs is one of a strategy of full lineage.
use Rattle.std.proofs.Common.{◌≡◌, ◌∙◌, ℕ, false, List, [], ◌∷◌, ◌++◌, map, length, refl, ap, ap₂}
use Rattle.std.proofs.Common.{inl, inr, All, true≢false}
use Rattle.std.specs.Prelude.{Result}
use Rattle.std.specs.List.{AllZip, filter}
use Rattle.std.specs.Result.{result_unwrap_or}
use Rattle.std.proofs.lemmas.Bool.{cases_Bool}
use Rattle.std.proofs.lemmas.List.Elements.{All-head, All-tail}
use Rattle.sz_cells.specs.Extent.{Extent}
use Rattle.sz_spec.specs.declared.modes.Mode.{Mode}
use Rattle.sz_spec.specs.declared.modes.Mode.TheVariants as mode
use Rattle.sz_spec.specs.declared.modes.Strategy.{Strategy}
use Rattle.sz_spec.specs.declared.modes.Strategy.TheVariants as strategy
use Rattle.sz_spec.specs.declared.shapes.ShapeFault.{ShapeFault}
use Rattle.sz_spec.specs.Values.{Grid, no_extent}
use Rattle.sz_spec.specs.Shapes.{Site}
use Rattle.sz_spec.specs.Kinds.{kinds_of}
use Rattle.sz_spec.specs.Modes.{mode_of, is_stored}
use Rattle.sz_frame.specs.Stands.{full_stands}
use Rattle.sz_frame.specs.Images.{measure_of}
use Rattle.sz_frame.specs.Laws.{IsTheRelation}
use Rattle.sz_store.specs.Kept.{Holding, regions, entries, Keep, holding_stands, stored_in}
use Rattle.sz_store.specs.Words.{Begins, BeginEach}
use Rattle.sz_merge.specs.Merged.{IsMergedTo, IsMergedKeep, kinds_in, kinds_of_holding}
use Rattle.sz_merge.specs.Stood.{kinds_held, kinds_kept}
use Rattle.sz_merge.specs.Laws.{keeps_pairs, paired_in, NumbersToldAreThoseKept, NumbersToldAreTheKinds}
use Rattle.sz_merge.proofs.Counted.{kinds-counted, read-over}
use Rattle.sz_merge.proofs.Stood.{AreOver, kinds-agree, kinds-related}

-- ---- of the stores

-- the number that is told of a store of a mode
one-kept : (s : Site) (m : Mode) (bytes : List ℕ) (at next : ℕ) (h k : Holding) → Begins s m bytes at next k
    → IsMergedTo s h k → kinds_of_holding k ≡ kinds_held s h
one-kept s mode.Full bytes at next (regions rs) (regions ms) begins merged =
    ap (λ (n : ℕ). n ∷ []) (kinds-counted s ms (record {
      over = read-over s.out s.ins bytes at next ms begins;
      kinds = merged.1;
    }) ∙ kinds-agree s (full_stands ms) (full_stands rs) (λ i o x inside out held. merged.0 i o x inside))
one-kept s mode.Pay bytes at next (regions rs) (regions ms) begins merged = absurd begins
one-kept s mode.Comp bytes at next (regions rs) (regions ms) begins merged = absurd begins
one-kept s mode.Map bytes at next (regions rs) (regions ms) begins merged = absurd begins
one-kept s mode.BlackBox bytes at next (regions rs) (regions ms) begins merged = absurd begins
one-kept s m bytes at next (regions rs) (entries comp es) begins merged = absurd merged
one-kept s m bytes at next (entries comp es) k begins merged = ap kinds_of_holding merged

-- those of stores one after another
all-kept : (s : Site) (ts : List Strategy) (bytes : List ℕ) (at next : ℕ) (before after : List Keep)
    → BeginEach s ts bytes at next after → AllZip (IsMergedKeep s) before after → kinds_in after ≡ kinds_kept s before
all-kept s ts bytes at next [] [] begins merged = refl
all-kept s ts bytes at next [] (g ∷ gs) begins merged = absurd merged
all-kept s ts bytes at next (f ∷ fs) [] begins merged = absurd merged
all-kept s [] bytes at next (f ∷ fs) (g ∷ gs) begins merged = absurd begins
all-kept s (t ∷ ts) bytes at next (f ∷ fs) (g ∷ gs) begins merged =
    ap₂ (λ (a b : List ℕ). a ++ b)
    (one-kept s (mode_of t) bytes at begins.0 f.holding g.holding begins.3 merged.0.1)
    (all-kept s ts bytes begins.0 next fs gs begins.4 merged.1)

-- the law of the stores
pub numbers-kept : NumbersToldAreThoseKept
numbers-kept s list before after bytes kinds merged =
    merged.counted
    ∙ all-kept s (stored_in list) bytes 0 (length bytes) before after.stores merged.read merged.each

-- ---- of an operator

-- how many kinds a store of a mode has that stands for the relation
one-told : (s : Site) (inputs : List Grid) (m : Mode) (bytes : List ℕ) (at next : ℕ) (h k : Holding)
    → AreOver s inputs → Begins s m bytes at next k → IsMergedTo s h k
    → IsTheRelation (measure_of s inputs) (holding_stands s h)
    → kinds_held s h ≡ map (λ (n : ℕ). kinds_of s.op inputs) (filter (λ (n : ℕ). keeps_pairs m) (0 ∷ []))
one-told s inputs mode.Full bytes at next (regions rs) k over begins merged exact =
    ap (λ (n : ℕ). n ∷ []) (kinds-related s inputs (full_stands rs) over exact)
one-told s inputs mode.Full bytes at next (entries comp es) (regions ms) over begins merged exact = absurd (cc)
one-told s inputs mode.Full bytes at next (entries comp es) (entries flag fs) over begins merged exact = absurd begins
one-told s inputs mode.Pay bytes at next (regions rs) (regions ms) over begins merged exact = absurd begins
one-told s inputs mode.Pay bytes at next (regions rs) (entries flag fs) over begins merged exact = absurd merged
one-told s inputs mode.Pay bytes at next (entries comp es) k over begins merged exact = refl
one-told s inputs mode.Comp bytes at next (regions rs) (regions ms) over begins merged exact = absurd begins
one-told s inputs mode.Comp bytes at next (regions rs) (entries flag fs) over begins merged exact = absurd merged
one-told s inputs mode.Comp bytes at next (entries comp es) k over begins merged exact = refl
one-told s inputs mode.Map bytes at next h k over begins merged exact = absurd begins
one-told s inputs mode.BlackBox bytes at next h k over begins merged exact = absurd begins

-- that of one store more
told-next : (s : Site) (inputs : List Grid) (t : Strategy) (ts : List Strategy) (first rest : List ℕ)
    → first ≡ map (λ (n : ℕ). kinds_of s.op inputs) (filter (λ (n : ℕ). keeps_pairs (mode_of t)) (0 ∷ []))
    → rest ≡ map (λ (u : Strategy). kinds_of s.op inputs) (paired_in ts)
    → first ++ rest ≡ map (λ (u : Strategy). kinds_of s.op inputs) (paired_in (t ∷ ts))
told-next s inputs t ts first rest one more =
    elim (cases_Bool (keeps_pairs (mode_of t))) [
      | inl keeps ↦
          let own : first ≡ kinds_of s.op inputs ∷ [] = rw keeps at one in
          rw keeps (ap₂ (λ (a b : List ℕ). a ++ b) own more)
      | inr other ↦
          let own : first ≡ [] = rw other at one in
          rw other (ap₂ (λ (a b : List ℕ). a ++ b) own more)
    ]

-- those of stores one after another
all-told : (s : Site) (inputs : List Grid) (ts : List Strategy) (bytes : List ℕ) (at next : ℕ)
    (before after : List Keep)
    → AreOver s inputs → BeginEach s ts bytes at next after → AllZip (IsMergedKeep s) before after
    → All (λ f. IsTheRelation (measure_of s inputs) (holding_stands s f.holding)) before
    → kinds_kept s before ≡ map (λ (u : Strategy). kinds_of s.op inputs) (paired_in ts)
all-told s inputs [] bytes at next [] [] over begins merged exact = refl
all-told s inputs (t ∷ ts) bytes at next [] [] over begins merged exact = absurd begins
all-told s inputs ts bytes at next [] (g ∷ gs) over begins merged exact = absurd merged
all-told s inputs ts bytes at next (f ∷ fs) [] over begins merged exact = absurd merged
all-told s inputs [] bytes at next (f ∷ fs) (g ∷ gs) over begins merged exact = absurd begins
all-told s inputs (t ∷ ts) bytes at next (f ∷ fs) (g ∷ gs) over begins merged exact =
    let IsExact : Keep → Type 0 =
    λ (k : Keep). IsTheRelation (measure_of s inputs) (holding_stands s k.holding) in
    told-next s inputs t ts (kinds_held s f.holding) (kinds_kept s fs)
    (one-told s inputs (mode_of t) bytes at begins.0 f.holding g.holding over begins.3 merged.0.1
    (All-head IsExact f fs exact))
    (all-told s inputs ts bytes begins.0 next fs gs over begins.4 merged.1 (All-tail IsExact f fs exact))

-- a strategy without a store keeps no region pairs
unstored : (t : Strategy) → is_stored t ≡ false → keeps_pairs (mode_of t) ≡ false
unstored strategy.Map no_store = refl
unstored strategy.BlackBox no_store = refl
unstored strategy.FullOneB no_store = absurd (true≢false no_store)
unstored strategy.FullOneF no_store = absurd (true≢false no_store)
unstored strategy.FullManyB no_store = absurd (true≢false no_store)
unstored strategy.FullManyF no_store = absurd (true≢false no_store)
unstored strategy.PayOne no_store = refl
unstored strategy.PayMany no_store = refl
unstored strategy.CompOne no_store = refl
unstored strategy.CompMany no_store = refl

paired-stored : (ts : List Strategy) → paired_in (stored_in ts) ≡ paired_in ts
paired-stored [] = refl
paired-stored (t ∷ ts) =
    elim (cases_Bool (is_stored t)) [
      | inl stored ↦
          elim (cases_Bool (keeps_pairs (mode_of t))) [
            | inl keeps ↦ rw (stored, keeps) (ap (λ (us : List Strategy). t ∷ us) (paired-stored ts))
            | inr other ↦ rw (stored, other) (paired-stored ts)
          ]
      | inr no_store ↦ rw (no_store, unstored t no_store) (paired-stored ts)
    ]

-- the law of an operator
pub numbers-told : NumbersToldAreTheKinds
numbers-told t before after bytes kinds tag rule stands merged =
    let s = t.site in
    let over : AreOver s t.inputs = record {
      shape = ap (λ (r : Result Extent ShapeFault). result_unwrap_or r no_extent) rule;
      inputs_shapes = tag.shapes;
    } in
    numbers-kept s t.list before.stores after bytes kinds merged
    ∙ all-told s t.inputs (stored_in t.list) bytes 0 (length bytes) before.stores after.stores over merged.read
    merged.each stands.exact
    ∙ ap (map (λ (u : Strategy). kinds_of s.op t.inputs)) (paired-stored t.list)
