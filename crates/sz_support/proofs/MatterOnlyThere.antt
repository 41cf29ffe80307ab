-- What follows of sums, convolutions and operators of two inputs where no number makes their value a number, and of
-- the cell that names a column of a table.
--
-- The key idea: the value is one function of what the cell holds. Where the function makes a number of some value, it
-- makes one of some number; and where it makes none of any value, nothing differs.
use Rattle.std.proofs.Common.{◌≡◌, ℕ, zero, suc, ◌<◌, ◌^◌, ℤ, pos, ◌+ℤ◌, ◌-ℤ◌, ◌*ℤ◌, true, false, ◌||◌}
use Rattle.std.proofs.Common.{List, [], ◌∷◌, ◌++◌, length, Option, Some, None, refl, sym, ap, ◌∙◌, arith, inl, inr}
use Rattle.std.proofs.Common.{nat_lt, ltb-true, negsuc}
use Rattle.std.proofs.Math.IntN.{zero-*ℤ, *ℤ-zero}
use Rattle.std.specs.Prelude.{option_and_then}
use Rattle.std.specs.Int.{int_min, int_max}
use Rattle.std.specs.List.{cons_option}
use Rattle.std.proofs.lemmas.Bool.{cases_Bool, or_cases}
use Rattle.std.proofs.lemmas.Bool.Decides.{nat_tests}
use Rattle.std.proofs.lemmas.Int.{ints}
use Rattle.std.proofs.lemmas.Nat.{mul-le}
use Rattle.sz_cells.specs.declared.Cell.{Cell}
use Rattle.sz_cells.specs.Cells.{is_same}
use Rattle.sz_cells.specs.Extent.{Extent, is_extent}
use Rattle.sz_cells.proofs.Shapes.{sides}
use Rattle.sz_cells.proofs.Sets.{is_same-true}
use Rattle.sz_spec.specs.declared.op.Op.{Op}
use Rattle.sz_spec.specs.declared.op.Op.TheVariants.{Add, Sub, Mul, Min}
use Rattle.sz_spec.specs.declared.op.Op.TheVariants.{Max, Block, Lookup}
use Rattle.sz_spec.specs.declared.op.Op.TheVariants.{FoldLayers}
use Rattle.sz_spec.specs.declared.op.Fold.TheVariants as fold
use Rattle.sz_spec.specs.Values.{Grid, fit, value_at, input_at, extents_of, total}
use Rattle.sz_spec.specs.Shapes.{Site, arity}
use Rattle.sz_spec.specs.Lineage.{mapped}
use Rattle.sz_spec.specs.Evaluation.{value_of}
use Rattle.sz_spec.specs.Operators.Folds.{fold_of}
use Rattle.sz_spec.specs.Operators.Lookup.{column_of, entry_at}
use Rattle.sz_spec.specs.Supports.{supports}
use Rattle.sz_spec.proofs.OutputShapes.{extent-right}
use Rattle.sz_spec.proofs.PayloadLineage.{extent-of_site}
use Rattle.sz_support.specs.Changes.{changed_at, IsSupported, IsValue, HoldValues, Matters, CanBeNumber}
use Rattle.sz_support.specs.LawsExactly.{EachMattersOnlyWhereNumber, SummedCellsMatterOnlyThere}
use Rattle.sz_support.specs.LawsExactly.{SummedCellsOfLayersMatterOnlyThere, ConvolvedCellsMatterOnlyThere}
use Rattle.sz_support.specs.LawsExactly.{PairedCellsMatterOnlyThere, MultipliedCellsMatterByPresence}
use Rattle.sz_support.specs.LawsExactly.{NamingCellsMatter}
use Rattle.sz_support.proofs.OneOperator.{supports-below}
use Rattle.sz_support.proofs.ChangedInputs.{changed-value, changed-others}
use Rattle.sz_support.proofs.Differing.{ReadsAt, by-presence}
use Rattle.sz_support.proofs.Extremes.{option-cases}
use Rattle.sz_support.proofs.MatterFolds.{IsFolding, folding-block, folding-layers, reads-folded, before, behind}
use Rattle.sz_support.proofs.MatterFolds.{around}
use Rattle.sz_support.proofs.MatterFolds.{total-around, sum-around}
use Rattle.sz_support.proofs.MatterConvolve.{weighed, reads-convolved}
use Rattle.sz_support.proofs.MatterTwo.{IsPaired, beside, other_at, reads-paired}

-- ---- what is read

-- where the function makes a number of nothing, it makes one of 0
abbrev IsOpen : (Option ℤ → Option ℤ) → Type 0
IsOpen f = (r : ℤ) → f None ≡ Some r → (q : ℤ) × (f (Some (pos 0)) ≡ Some q)

number-at : (s : Site) (inputs : List Grid) (i : ℕ) (o x : Cell) (f : Option ℤ → Option ℤ) → ReadsAt s inputs i o x f
    → IsOpen f → (v : Option ℤ) (r : ℤ) → IsValue v → f v ≡ Some r → CanBeNumber s inputs i o x
number-at s inputs i o x f reads opens None r right told =
    let n = opens r told in (pos 0, refl, n.0, reads.changed (Some (pos 0)) ∙ n.1)
number-at s inputs i o x f reads opens (Some z) r right told = (z, right, r, reads.changed (Some z) ∙ told)

only-number : (s : Site) (inputs : List Grid) (i : ℕ) (o x : Cell) (f : Option ℤ → Option ℤ) → ReadsAt s inputs i o x f
    → IsOpen f → IsSupported s inputs i o x → HoldValues s inputs → Matters s inputs i o x
    → CanBeNumber s inputs i o x
only-number s inputs i o x f reads opens known values matters =
    let v = matters.0 in
    let w = value_at (input_at inputs i) x in
    elim (option-cases (f v)) [
      | inr new ↦ number-at s inputs i o x f reads opens v new.0 matters.1 new.1
      | inl none ↦
          elim (option-cases (f w)) [
            | inr old ↦
                number-at s inputs i o x f reads opens w old.0
                (values i x (supports-below s inputs i o x known.work known.supports) known.there) old.1
            | inl never ↦ absurd (matters.2 (reads.now ∙ never ∙ sym (reads.changed v ∙ none)))
          ]
    ]

-- ---- sums

-- a sum is the fit of the total
sum-fits : (zs : List ℤ) (r : ℤ) → fold_of fold.Sum zs ≡ Some r → fit (total zs) ≡ Some r
sum-fits [] r told = (cc)
sum-fits (z ∷ zs) r told = told

sum-open : (xs ys : List ℤ) → IsOpen (λ v. fold_of fold.Sum (xs ++ cons_option v ys))
sum-open xs ys r told =
    let same : total (xs ++ pos 0 ∷ ys) ≡ total (xs ++ ys) = omega (arith, ints, total-around xs ys (pos 0)) in
    (r, sum-around xs ys (pos 0) ∙ ap fit same ∙ sum-fits (xs ++ ys) r told)

sums-only : (op : Op) → IsFolding op fold.Sum → EachMattersOnlyWhereNumber op
sums-only op folding s inputs i o x is known values matters =
    let g = input_at inputs 0 in
    let p = mapped op (extents_of inputs) 0 o in
    only-number s inputs i o x (λ v. fold_of fold.Sum (around g p x v))
    (reads-folded op fold.Sum folding s inputs i o x is known) (sum-open (before g p x) (behind g p x)) known values
    matters

pub sums-only_there : SummedCellsMatterOnlyThere
sums-only_there height width = sums-only (Block fold.Sum height width) (folding-block fold.Sum height width)

pub sums-of_layers_only_there : SummedCellsOfLayersMatterOnlyThere
sums-of_layers_only_there = sums-only (FoldLayers fold.Sum) (folding-layers fold.Sum)

-- ---- convolutions

pub convolved-only_there : ConvolvedCellsMatterOnlyThere
convolved-only_there w s inputs i o x is known values matters =
    let read = reads-convolved w s inputs i o x is known in
    only-number s inputs i o x (weighed read.0 read.1) read.3 (λ r told. (cc)) known values matters

-- ---- two inputs

beside-none : (f : ℤ → ℤ → Option ℤ) (i : ℕ) (other : Option ℤ) → beside f i other None ≡ None
beside-none f zero other = refl
beside-none f (suc i) None = refl
beside-none f (suc i) (Some a) = refl

paired-only : (op : Op) (f : ℤ → ℤ → Option ℤ) → IsPaired op f → EachMattersOnlyWhereNumber op
paired-only op f paired s inputs i o x is known values matters =
    only-number s inputs i o x (beside f i (other_at inputs i o)) (reads-paired op f paired s inputs i o x is known)
    (λ r told. let both = sym (beside-none f i (other_at inputs i o)) ∙ told in (cc)) known values matters

pub paired-only_there : PairedCellsMatterOnlyThere
paired-only_there Add h =
    paired-only Add (λ a b. fit (a +ℤ b))
    (record { two = refl; value = λ gs c. refl; supported = λ gs k c d. refl })
paired-only_there Sub h =
    paired-only Sub (λ a b. fit (a -ℤ b))
    (record { two = refl; value = λ gs c. refl; supported = λ gs k c d. refl })
paired-only_there Mul h =
    paired-only Mul (λ a b. fit (a *ℤ b))
    (record { two = refl; value = λ gs c. refl; supported = λ gs k c d. refl })
paired-only_there Min h =
    paired-only Min (λ a b. Some (int_min a b))
    (record { two = refl; value = λ gs c. refl; supported = λ gs k c d. refl })
paired-only_there Max h =
    paired-only Max (λ a b. Some (int_max a b))
    (record { two = refl; value = λ gs c. refl; supported = λ gs k c d. refl })
paired-only_there _ h = (cc)

-- a product with 0 is 0
product-present : (i : ℕ) (other : Option ℤ) (z r : ℤ) → beside (λ a b. fit (a *ℤ b)) i other (Some z) ≡ Some r
    → beside (λ a b. fit (a *ℤ b)) i other None ≡ beside (λ a b. fit (a *ℤ b)) i other (Some (pos 0)) → ⊥
product-present zero None z r told h = (cc)
product-present zero (Some b) z r told h = let both : None ≡ Some (pos 0) = h ∙ ap fit (zero-*ℤ b) in (cc)
product-present (suc i) None z r told h = (cc)
product-present (suc i) (Some a) z r told h = let both : None ≡ Some (pos 0) = h ∙ ap fit (*ℤ-zero a) in (cc)

pub multiplied-present : MultipliedCellsMatterByPresence
multiplied-present s inputs i o x is known can =
    let f : ℤ → ℤ → Option ℤ = λ a b. fit (a *ℤ b) in
    let reads = reads-paired Mul f (record { two = refl; value = λ gs c. refl; supported = λ gs k c d. refl }) s inputs
    i o x is known in
    by-presence s inputs i o x (beside f i (other_at inputs i o)) reads
    (product-present i (other_at inputs i o) can.0 can.2 (sym (reads.changed (Some can.0)) ∙ can.3))

-- ---- the cell that names a column

-- what a value names in a table
abbrev named : Grid → Option ℤ → Option ℤ
named table v = option_and_then (λ k. value_at table (entry_at k)) (option_and_then (column_of table.extent.cols) v)

-- some column of the table holds a number
abbrev HasNumber : Grid → Type 0
HasNumber table = (k : ℕ) × (k < table.extent.cols) × (r : ℤ) × (value_at table (entry_at k) ≡ Some r)

named-number : (table : Grid) (v : Option ℤ) (r : ℤ) → named table v ≡ Some r → HasNumber table
named-number table None r told = (cc)
named-number table (Some (pos k)) r told =
    elim (cases_Bool (nat_lt k table.extent.cols)) [
      | inl inside ↦ (k, ltb-true k table.extent.cols inside, r, rw inside at told)
      | inr outside ↦ let none = rw outside at told in (cc)
    ]
named-number table (Some (negsuc k)) r told = (cc)

named-at : (table : Grid) (k : ℕ) → k < table.extent.cols
    → named table (Some (pos k)) ≡ value_at table (entry_at k)
named-at table k inside = let low : nat_lt k table.extent.cols ≡ true = grind (arith, nat_tests) in rw low refl

reads-named : (s : Site) (inputs : List Grid) (o x : Cell) → s.op ≡ Lookup → IsSupported s inputs 0 o x
    → ReadsAt s inputs 0 o x (named (input_at inputs 1))
reads-named s inputs o x is known =
    let passes : (is_same x o || false) ≡ true =
    sym (ap (λ (p : Op). supports p inputs 0 o x) is) ∙ known.supports in
    let cell : x ≡ o =
    elim (or_cases (is_same x o) false passes) [ inl same ↦ is_same-true x o same | inr never ↦ (cc) ] in
    let many : length s.ins ≡ 2 = ((known.work).site).arity ∙ ap arity is in
    let value : (gs : List Grid) → value_of s.op gs o ≡ named (input_at gs 1) (value_at (input_at gs 0) x) =
    λ gs.
    ap (λ (p : Op). value_of p gs o) is
    ∙ ap (λ (c : Cell). named (input_at gs 1) (value_at (input_at gs 0) c)) (sym cell) in
    record {
      now = value inputs;
      changed = λ v.
          value (changed_at inputs 0 x v)
          ∙ ap (λ (g : Grid). named g (value_at (input_at (changed_at inputs 0 x v) 0) x))
          (changed-others inputs 0 1 x v (λ same. omega arith))
          ∙ ap (named (input_at inputs 1))
          (changed-value s inputs 0 x v known.work (omega (arith, many)) known.there);
    }

-- a column's number is an i64
few-columns : (e : Extent) (k : ℕ) → is_extent e ≡ true → k < e.cols → k < 2 ^ 63
few-columns e k right inside =
    let all = sides e right in
    let wide = mul-le 1 e.cols e.rows e.cols (omega (arith, all.2)) (omega arith) in
    omega (arith, inside, all.5, wide)

small-number : (k : ℕ) → k < 2 ^ 63 → fit (pos k) ≡ Some (pos k)
small-number k low = let below : nat_lt k (2 ^ 63) ≡ true = grind (arith, nat_tests) in rw below refl

pub naming-matter : NamingCellsMatter
naming-matter s inputs o x is known =
    let table = input_at inputs 1 in
    let w = value_at (input_at inputs 0) x in
    let reads = reads-named s inputs o x is known in
    let many : length s.ins ≡ 2 = ((known.work).site).arity ∙ ap arity is in
    let right : is_extent table.extent ≡ true =
    ap is_extent (extent-of_site s inputs 1 known.work)
    ∙ extent-right s.ins 1 (known.work).right (omega (arith, many)) in (
      λ matters.
          elim (option-cases (named table matters.0)) [
            | inr new ↦ named-number table matters.0 new.0 new.1
            | inl none ↦
                elim (option-cases (named table w)) [
                  | inr old ↦ named-number table w old.0 old.1
                  | inl never ↦
                      absurd (matters.2 (reads.now ∙ never ∙ sym (reads.changed matters.0 ∙ none)))
                ]
          ],
      λ found.
          elim (option-cases (named table w)) [
            | inr old ↦ (
              None,
              refl,
              λ h. let both : Some old.0 ≡ None = sym old.1 ∙ sym reads.now ∙ h ∙ reads.changed None in (cc),
            )
            | inl never ↦
                let k = found.0 in (
                  Some (pos k),
                  small-number k (few-columns table.extent k right found.1),
                  λ h.
                      let both : None ≡ Some found.2 =
                      sym never ∙ sym reads.now ∙ h ∙ reads.changed (Some (pos k)) ∙ named-at table k found.1
                      ∙ found.3 in
                      (cc),
                )
          ],
    )
