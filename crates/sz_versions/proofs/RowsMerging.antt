-- What merging changes and tells, worked by hand on both sides of what the definitions say.
--
-- The key idea: stores that were made may become others whose region pairs are kinds, and nothing else may change; and
-- the numbers that are told are those of each node with stores, once, in their order.
use Rattle.std.proofs.Common.{◌≡◌, ℕ, List, [], ◌∷◌, true, false, refl, sym, arith, Some, None}
use Rattle.std.proofs.Common.{All, subst}
use Rattle.std.proofs.lemmas.List.Elements.{All-head}
use Rattle.sz_cells.specs.Extent.{flat}
use Rattle.sz_cells.specs.Cells.{Cells}
use Rattle.sz_spec.specs.declared.op.Op.TheVariants as op
use Rattle.sz_spec.specs.declared.modes.Strategy.TheVariants as strategy
use Rattle.sz_spec.specs.Shapes.{Site}
use Rattle.sz_frame.specs.Parts.{Pairing}
use Rattle.sz_store.specs.Kept.{regions, entries, Keep, NodeLineage}
use Rattle.sz_shelf.specs.Places.{ShelfPlace}
use Rattle.sz_versions.specs.Residents.{Stored, none, on_shelf, built, given}
use Rattle.sz_versions.specs.Merging.{kinds_recalled, HasKinds, IsMergedStored, IsMergedIn}

-- ---- stores of one row of two cells

abbrev set : List ℕ → Cells
set xs = record { extent = flat 1 2; indexes = xs }

abbrev pair : List ℕ → List ℕ → Pairing
pair out xs = record { out = set out; ins = set xs ∷ [] }

abbrev site : Site
site = record { op = op.Neg; ins = flat 1 2 ∷ []; out = flat 1 2 }

abbrev kept : List Pairing → NodeLineage
kept rs = record {
  site = site;
  list = strategy.FullManyB ∷ [];
  placed = true ∷ [];
  stores = record { strategy = strategy.FullManyB; holding = regions rs } ∷ [];
}

-- both cells have the first cell behind them, by two pairs; or each its own
abbrev twice : List Pairing
twice = pair (0 ∷ []) (0 ∷ []) ∷ pair (1 ∷ []) (0 ∷ []) ∷ []

abbrev each : List Pairing
each = pair (0 ∷ []) (0 ∷ []) ∷ pair (1 ∷ []) (1 ∷ []) ∷ []

abbrev paid : NodeLineage
paid = record {
  site = site;
  list = strategy.PayOne ∷ [];
  placed = true ∷ [];
  stores = record { strategy = strategy.PayOne; holding = entries false [] } ∷ [];
}

-- ---- the numbers that are told

-- two pairs of one lineage are one kind, and a node without stores or with entries has no number
told-twice : kinds_recalled (Some (kept twice) ∷ None ∷ Some paid ∷ Some (kept each) ∷ []) ≡ 1 ∷ 2 ∷ []
told-twice = refl

told-none : kinds_recalled (None ∷ None ∷ []) ≡ []
told-none = refl

-- ---- what changes

-- two pairs of one lineage are no kinds
twice-kinds : HasKinds (regions twice) → ⊥
twice-kinds are = absurd (omega (arith, are.different 0 1 (set (0 ∷ []) ∷ []) refl refl))

-- so stores with such are none that were merged
abbrev HaveKinds : NodeLineage → Type 0
HaveKinds k = All (λ (f : Keep). HasKinds f.holding) k.stores

is-merged_twice : (k : NodeLineage) → IsMergedStored (built k) (built (kept twice)) → ⊥
is-merged_twice k is =
    let same : built (kept twice) ≡ built is.0 = is.1 in
    let is_one : kept twice ≡ is.0 = cc in
    let all : HaveKinds (kept twice) = subst HaveKinds (sym is_one) is.2 in
    twice-kinds (All-head (λ (f : Keep). HasKinds f.holding)
    (record { strategy = strategy.FullManyB; holding = regions twice }) [] all)

-- nor do stores that were made become ones that a log gave, or go
merged-given : (k l : NodeLineage) → IsMergedStored (built k) (given l) → ⊥
merged-given k l is = let never : given l ≡ built is.0 = is.1 in absurd (cc)

merged-gone : (k : NodeLineage) → IsMergedStored (built k) none → ⊥
merged-gone k is = let never : none ≡ built is.0 = is.1 in absurd (cc)

-- what a log gave stays, and so does a shelf
given-stays : (k : NodeLineage) → IsMergedStored (given k) (given k)
given-stays k = refl

given-merged : (k : NodeLineage) → IsMergedStored (given k) (built k) → ⊥
given-merged k is = let never : built k ≡ given k = is in absurd (cc)

shelf-stays : (z : ShelfPlace) → IsMergedStored (on_shelf z) (on_shelf z)
shelf-stays z = refl

-- another version stays as it is
other-stays : (k l : NodeLineage) → IsMergedIn 2 (1, built k ∷ []) (1, built l ∷ []) → k ≡ l
other-stays k l is = let same : built l ∷ [] ≡ built k ∷ [] = is.other refl in cc

-- and has the number that it had
other-number : (ks : List Stored) → IsMergedIn 2 (1, ks) (3, ks) → ⊥
other-number ks is = let same : 3 ≡ 1 = is.number in absurd (omega (arith, same))

-- a node more or less is none
node-lost : (k : NodeLineage) → IsMergedIn 1 (1, built k ∷ []) (1, []) → ⊥
node-lost k is = is.own refl
