-- Rows of region pairs that are the kinds of lineage and of ones that are not, of what is a merged store and of what is
-- none, of labels, of the numbers that are told, and of how many kinds a store has by what it stands for.
--
-- The key idea: on written-out sets the definitions compute. Expected values by hand.
use Rattle.std.proofs.Common.{◌≡◌, ◌∙◌, ℕ, zero, suc, ◌<◌, true, false, ◌||◌, ◌==◌, List, [], ◌∷◌, Option, Some, None}
use Rattle.std.proofs.Common.{refl, sym, ap, arith, eqb-true, true≢false, All, map, length, get_or, inl, inr}
use Rattle.std.specs.List.{slice_get}
use Rattle.std.proofs.lemmas.Bool.{and_parts, or_cases}
use Rattle.std.proofs.lemmas.List.Elements.{All-nil, All-cons}
use Rattle.std.proofs.lemmas.Option.{same_Some, slice_get_within}
use Rattle.sz_cells.specs.declared.Cell.{Cell}
use Rattle.sz_cells.specs.declared.Run.{Run}
use Rattle.sz_cells.specs.Extent.{flat, holds, index_of, cell_of}
use Rattle.sz_cells.specs.Cells.{Cells, has}
use Rattle.sz_spec.specs.declared.op.Op.TheVariants as op
use Rattle.sz_spec.specs.declared.modes.Strategy.TheVariants as strategy
use Rattle.sz_spec.specs.Shapes.{Site}
use Rattle.sz_frame.specs.Parts.{Pairing}
use Rattle.sz_region.specs.Putting.{HasShapes}
use Rattle.sz_store.specs.Kept.{regions, entries}
use Rattle.sz_merge.specs.Distinct.{AreKinds, HasBothSides}
use Rattle.sz_merge.specs.Laws.{paired_in}
use Rattle.sz_merge.specs.Lineages.{nothing, behind, joined, is_nothing}
use Rattle.sz_merge.specs.Marks.{AreLabels, kinds_below}
use Rattle.sz_merge.specs.Merged.{IsMergedTo, kinds_in}
use Rattle.sz_merge.specs.Stood.{lineage_stood, kinds_stood, kinds_kept}

-- some cells of a row of two, a region pair of one input, and two of which each has one cell on either side
abbrev set : List ℕ → Cells
set xs = record { extent = flat 1 2; indexes = xs }

abbrev pair : List ℕ → List ℕ → Pairing
pair out xs = record { out = set out; ins = set xs ∷ [] }

abbrev two : List Pairing
two = pair (0 ∷ []) (0 ∷ []) ∷ pair (1 ∷ []) (1 ∷ []) ∷ []

abbrev cell : ℕ → Cell
cell k = record { row = 0; col = k }

-- ---- the kinds

-- the first index of the first set of a lineage that is there, and the index of a cell that is one of one
first-of : Option (List Cells) → ℕ
first-of None = 0
first-of (Some []) = 0
first-of (Some (s ∷ sets)) = get_or s.indexes 0 0

two-different : (m n : ℕ) (x : List Cells) → slice_get (map (λ (r : Pairing). r.ins) two) m ≡ Some x
    → slice_get (map (λ (r : Pairing). r.ins) two) n ≡ Some x → m ≡ n
unfolding first-of
two-different zero zero x at too = refl
two-different zero (suc zero) x at too = absurd (omega (arith, ap first-of (at ∙ sym too)))
two-different (suc zero) zero x at too = absurd (omega (arith, ap first-of (at ∙ sym too)))
two-different (suc zero) (suc zero) x at too = refl
two-different (suc (suc m)) n x at too = absurd (omega (arith, slice_get_within [] m x at))
two-different m (suc (suc n)) x at too = absurd (omega (arith, slice_get_within [] n x too))

alone : (k : ℕ) (o : Cell) → has (set (k ∷ [])) o ≡ true → k ≡ index_of (flat 1 2) o
alone k o there =
    let both = and_parts (holds (flat 1 2) o) ((k == index_of (flat 1 2) o) || false) there in
    elim (or_cases (k == index_of (flat 1 2) o) false both.1) [
      | inl same ↦ eqb-true k (index_of (flat 1 2) o) same
      | inr never ↦ absurd (true≢false (sym never))
    ]

two-apart : (m n : ℕ) (a b : Pairing) (o : Cell) → slice_get two m ≡ Some a → slice_get two n ≡ Some b
    → has a.out o ≡ true → has b.out o ≡ true → m ≡ n
two-apart zero zero a b o at too here there = refl
two-apart zero (suc zero) a b o at too here there =
    let one = alone 0 o (ap (λ (r : Pairing). has r.out o) (same_Some (pair (0 ∷ []) (0 ∷ [])) a at) ∙ here) in
    let other = alone 1 o (ap (λ (r : Pairing). has r.out o) (same_Some (pair (1 ∷ []) (1 ∷ [])) b too) ∙ there) in
    absurd (omega (arith, one, other))
two-apart (suc zero) zero a b o at too here there =
    let one = alone 1 o (ap (λ (r : Pairing). has r.out o) (same_Some (pair (1 ∷ []) (1 ∷ [])) a at) ∙ here) in
    let other = alone 0 o (ap (λ (r : Pairing). has r.out o) (same_Some (pair (0 ∷ []) (0 ∷ [])) b too) ∙ there) in
    absurd (omega (arith, one, other))
two-apart (suc zero) (suc zero) a b o at too here there = refl
two-apart (suc (suc m)) n a b o at too here there = absurd (omega (arith, slice_get_within [] m a at))
two-apart m (suc (suc n)) a b o at too here there = absurd (omega (arith, slice_get_within [] n b too))

pair-sides : (k : ℕ) → HasBothSides (pair (k ∷ []) (k ∷ []))
pair-sides k = record { out = λ none. absurd (omega (arith, ap length none)); ins = refl }

two-kinds : AreKinds two
two-kinds = record {
  different = two-different;
  apart = two-apart;
  sides =
      All-cons HasBothSides (pair (0 ∷ []) (0 ∷ [])) (pair (1 ∷ []) (1 ∷ []) ∷ []) (pair-sides 0)
      (All-cons HasBothSides (pair (1 ∷ []) (1 ∷ [])) [] (pair-sides 1) (All-nil HasBothSides));
}

-- two of one lineage, two with one output cell, one without an output cell, and one of no lineage are none
kinds-twice : AreKinds (pair (0 ∷ []) (1 ∷ []) ∷ pair (1 ∷ []) (1 ∷ []) ∷ []) → ⊥
kinds-twice are = absurd (omega (arith, are.different 0 1 (set (1 ∷ []) ∷ []) refl refl))

kinds-shared : AreKinds (pair (0 ∷ 1 ∷ []) (0 ∷ []) ∷ pair (1 ∷ []) (1 ∷ []) ∷ []) → ⊥
kinds-shared are =
    absurd (omega (
      arith,
      are.apart 0 1 (pair (0 ∷ 1 ∷ []) (0 ∷ [])) (pair (1 ∷ []) (1 ∷ [])) (cell 1) refl refl refl refl,
    ))

kinds-nowhere : AreKinds (pair [] (0 ∷ []) ∷ []) → ⊥
kinds-nowhere are = (are.sides 0 (pair [] []) (omega arith)).out refl

kinds-nothing : AreKinds (pair (0 ∷ []) [] ∷ []) → ⊥
kinds-nothing are = true≢false ((are.sides 0 (pair [] []) (omega arith)).ins)

-- ---- lineages and labels

-- what stands behind a cell, joined with what stands behind the other one, is not nothing
behind-first : behind (flat 1 2 ∷ []) two (cell 0) ≡ set (0 ∷ []) ∷ []
behind-first = refl

joins : joined (set (1 ∷ []) ∷ []) (set (0 ∷ []) ∷ []) ≡ set (0 ∷ 1 ∷ []) ∷ []
joins = refl

no-lineage : is_nothing (nothing (flat 1 2 ∷ [])) ≡ true
no-lineage = refl

some-lineage : is_nothing (set [] ∷ set (1 ∷ []) ∷ []) ≡ false
some-lineage = refl

-- the lineages of two, by number
abbrev numbered : List (List Cells)
numbered = nothing (flat 1 2 ∷ []) ∷ (set (0 ∷ []) ∷ []) ∷ (set (1 ∷ []) ∷ []) ∷ []

labels-right : AreLabels (flat 1 2) (flat 1 2 ∷ []) two (1 ∷ 2 ∷ []) numbered
labels-right = record { long = refl; zero = refl; each = at } where
  at : (k : ℕ) → k < 2 → slice_get numbered (get_or (1 ∷ 2 ∷ []) k 0)
      ≡ Some (behind (flat 1 2 ∷ []) two (cell_of (flat 1 2) k))
  at zero below = refl
  at (suc zero) below = refl
  at (suc (suc k)) below = absurd (omega arith)

labels-turned : AreLabels (flat 1 2) (flat 1 2 ∷ []) two (2 ∷ 1 ∷ []) numbered → ⊥
unfolding first-of
labels-turned are = absurd (omega (arith, ap first-of (are.each 0 (omega arith))))

-- the kinds of groups by number: that of number 0 is none, and neither is one without a cell
abbrev run : ℕ → Run
run k = record { first = k; last = k }

kinds-below : kinds_below (flat 1 2) ((run 0 ∷ []) ∷ (run 1 ∷ []) ∷ [] ∷ []) numbered 3 ≡ pair (1 ∷ []) (0 ∷ []) ∷ []
kinds-below = refl

-- ---- merged stores

abbrev site : Site
site = record { op = op.Neg; ins = flat 1 2 ∷ []; out = flat 1 2 }

two-shapes : All (HasShapes (flat 1 2) (flat 1 2 ∷ [])) two
two-shapes =
    let P : Pairing → Type 0 = HasShapes (flat 1 2) (flat 1 2 ∷ []) in
    All-cons P (pair (0 ∷ []) (0 ∷ [])) (pair (1 ∷ []) (1 ∷ []) ∷ []) (record { out = refl; ins = refl })
    (All-cons P (pair (1 ∷ []) (1 ∷ [])) [] (record { out = refl; ins = refl }) (All-nil P))

-- kinds are merged to themselves, in any order of them; cells of two lineages to no region pair of both
merged-same : IsMergedTo site (regions two) (regions two)
merged-same = ((λ i o x inside. refl), two-kinds, two-shapes)

merged-one : IsMergedTo site (regions two) (regions (pair (0 ∷ 1 ∷ []) (0 ∷ 1 ∷ []) ∷ [])) → ⊥
merged-one merged = true≢false (merged.0 0 (cell 0) (cell 1) (omega arith))

merged-lost : IsMergedTo site (regions two) (regions []) → ⊥
merged-lost merged = true≢false (sym (merged.0 0 (cell 0) (cell 0) (omega arith)))

-- entries stay, and are merged to no region pairs
merged-entries : IsMergedTo site (entries true []) (entries true [])
merged-entries = refl

merged-pairs : IsMergedTo site (entries true []) (regions []) → ⊥
merged-pairs merged = absurd (cc)

-- ---- numbers

-- a number for each strategy whose store keeps region pairs, also where two keep the same
numbers-in : kinds_in (record { strategy = strategy.FullOneB; holding = regions two }
    ∷ record { strategy = strategy.PayOne; holding = entries false [] }
    ∷ record { strategy = strategy.FullManyF; holding = regions two } ∷ []) ≡ 2 ∷ 2 ∷ []
numbers-in = refl

paired : paired_in (strategy.FullOneB ∷ strategy.PayOne ∷ strategy.Map ∷ strategy.FullManyF ∷ strategy.CompMany ∷ [])
    ≡ strategy.FullOneB ∷ strategy.FullManyF ∷ []
paired = refl

-- ---- kinds by what stands

-- some cells of a row of three, a region pair of one input and one of two inputs, and the operators' shapes
abbrev long : List ℕ → Cells
long xs = record { extent = flat 1 3; indexes = xs }

abbrev reach : List ℕ → List ℕ → Pairing
reach out xs = record { out = long out; ins = long xs ∷ [] }

abbrev reach-two : List ℕ → List ℕ → List ℕ → Pairing
reach-two out xs ys = record { out = long out; ins = long xs ∷ long ys ∷ [] }

abbrev over-three : Site
over-three = record { op = op.Neg; ins = flat 1 3 ∷ []; out = flat 1 3 }

abbrev over-both : Site
over-both = record { op = op.Neg; ins = flat 1 3 ∷ flat 1 3 ∷ []; out = flat 1 3 }

-- two pairs that share an output cell: behind that stand the cells of both, which is a third kind
abbrev overlapping : List Pairing
overlapping = reach (0 ∷ 1 ∷ []) (0 ∷ []) ∷ reach (1 ∷ 2 ∷ []) (1 ∷ []) ∷ []

behind-shared : lineage_stood over-three (regions overlapping) (cell 1) ≡ (0 ∷ 1 ∷ []) ∷ []
behind-shared = refl

stood-shared : kinds_stood over-three (regions overlapping) ≡ 3
stood-shared = refl

-- cells of one lineage in two pairs are of one kind, and the cell between them is of none
abbrev repeated : List Pairing
repeated = reach (0 ∷ []) (2 ∷ []) ∷ reach (2 ∷ []) (2 ∷ []) ∷ []

stood-once : kinds_stood over-three (regions repeated) ≡ 1
stood-once = refl

-- also where one has it of a pair, and the other of two
stood-joined : kinds_stood over-three
    (regions (reach (0 ∷ []) (0 ∷ 1 ∷ []) ∷ reach (2 ∷ []) (0 ∷ []) ∷ reach (2 ∷ []) (1 ∷ []) ∷ [])) ≡ 1
stood-joined = refl

-- an empty lineage is not counted
behind-nothing : lineage_stood over-three (regions (reach (0 ∷ 1 ∷ []) [] ∷ [])) (cell 0) ≡ [] ∷ []
behind-nothing = refl

stood-nothing : kinds_stood over-three (regions (reach (0 ∷ 1 ∷ []) [] ∷ [])) ≡ 0
stood-nothing = refl

stood-nowhere : kinds_stood over-three (regions []) ≡ 0
stood-nowhere = refl

-- a lineage is of all inputs together: cells that differ in the second input alone are of two kinds, and so are those
-- whose inputs are turned
stood-second : kinds_stood over-both
    (regions (reach-two (0 ∷ []) (1 ∷ []) [] ∷ reach-two (2 ∷ []) (1 ∷ []) (0 ∷ []) ∷ [])) ≡ 2
stood-second = refl

stood-turned : kinds_stood over-both
    (regions (reach-two (0 ∷ []) (1 ∷ []) [] ∷ reach-two (2 ∷ []) [] (1 ∷ []) ∷ [])) ≡ 2
stood-turned = refl

-- a number for each store with region pairs, in the order of the stores
kept-in : kinds_kept over-three (record { strategy = strategy.FullOneB; holding = regions overlapping }
    ∷ record { strategy = strategy.CompMany; holding = entries true [] }
    ∷ record { strategy = strategy.FullManyF; holding = regions repeated } ∷ []) ≡ 3 ∷ 1 ∷ []
kept-in = refl
