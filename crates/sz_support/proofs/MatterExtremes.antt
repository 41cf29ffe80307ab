-- What follows of operators that make the least or the greatest of many numbers: which cells matter, and which do not.
--
-- The key idea: where no other cell holds the end of all i64s, the value is the end with the end in that cell, and not
-- with 0 there; where another one does, it is the end whatever that cell holds.
use Rattle.std.proofs.Common.{◌≡◌, ℕ, ◌<◌, ℤ, pos, Bool, true, false, ◌⊎◌, List, [], ◌∷◌, length, Option, Some}
use Rattle.std.proofs.Common.{refl, sym, ap, ap₂, subst, ◌∙◌, arith, inl, inr, ◌↔◌}
use Rattle.std.specs.Int.{int_min, int_max}
use Rattle.std.specs.List.{filter, reduce}
use Rattle.std.proofs.lemmas.Bool.{cases_Bool}
use Rattle.sz_cells.specs.declared.Cell.{Cell}
use Rattle.sz_cells.specs.Extent.{Extent, holds}
use Rattle.sz_cells.specs.Cells.{is_same, cells_where}
use Rattle.sz_cells.proofs.Sets.{is_same-true}
use Rattle.sz_spec.specs.declared.op.Op.{Op}
use Rattle.sz_spec.specs.declared.op.Op.TheVariants.{Block, FoldLayers}
use Rattle.sz_spec.specs.declared.op.Fold.{Fold}
use Rattle.sz_spec.specs.declared.op.Fold.TheVariants.{Min, Max}
use Rattle.sz_spec.specs.Values.{Grid, fit, value_at, numbers_at, input_at, extents_of, with_number}
use Rattle.sz_spec.specs.Shapes.{Site, arity}
use Rattle.sz_spec.specs.Lineage.{mapped}
use Rattle.sz_spec.specs.Evaluation.{value_of, mapped_numbers}
use Rattle.sz_spec.specs.Operators.Folds.{fold_of}
use Rattle.sz_spec.specs.Supports.{supports}
use Rattle.sz_spec.specs.Work.{IsAtWork}
use Rattle.sz_spec.proofs.PayloadLineage.{related-inputs, extent-of_site}
use Rattle.sz_support.specs.Changes.{with_value, changed_at, IsSupported, ValueDiffers, IsValue, HoldValues, Matters}
use Rattle.sz_support.specs.LawsExactly.{least_i64, greatest_i64, MattersExactlyWhere, AnotherHolds}
use Rattle.sz_support.specs.LawsExactly.{EachMattersUnlessAnother, CellsOfLeastMatter, CellsOfLeastOfLayersMatter}
use Rattle.sz_support.specs.LawsExactly.{CellsOfGreatestMatter, CellsOfGreatestOfLayersMatter}
use Rattle.sz_support.proofs.ChangedInputs.{with-there, with-others, changed-extents, changed-there, inputs-many}
use Rattle.sz_support.proofs.Differing.{either-differs}
use Rattle.sz_support.proofs.Extremes.{IsTowards, gathered, Holds, gathered-to, gathered-from, least-end, greatest-end}
use Rattle.sz_support.proofs.MatterFolds.{IsFolding, folding-block, folding-layers}

-- ---- an array that is changed at one cell

abbrev pub AreValues : Grid → Type 0
AreValues g = (y : Cell) → holds g.extent y ≡ true → IsValue (value_at g y)

-- another cell that passes holds this number
abbrev pub Another : (Cell → Bool) → Grid → Cell → ℤ → Type 0
Another p g x z = (y : Cell) × (is_same y x ≡ false) × (holds g.extent y ≡ true) × (p y ≡ true)
    × (value_at g y ≡ Some z)

-- the changed array holds values where the new one is a value
pub changed-values : (g : Grid) (x : Cell) (v : Option ℤ) → holds g.extent x ≡ true → AreValues g → IsValue v
    → AreValues (with_value g x v)
changed-values g x v held values right y there =
    elim (cases_Bool (is_same y x)) [
      | inl same ↦
          let here : value_at (with_value g x v) y ≡ v =
          ap (value_at (with_value g x v)) (is_same-true y x same) ∙ with-there g x v held in
          ap (with_number fit) here ∙ right ∙ sym here
      | inr other ↦
          let kept = with-others g x y v held there other in
          ap (with_number fit) kept ∙ values y there ∙ sym kept
    ]

-- what the changed array holds somewhere is the new value, or another cell holds it
held-either : (p : Cell → Bool) (g : Grid) (x : Cell) (v : Option ℤ) (z : ℤ) → holds g.extent x ≡ true
    → Holds p (with_value g x v) z → (v ≡ Some z) ⊎ Another p g x z
held-either p g x v z held found =
    let y = found.0 in
    elim (cases_Bool (is_same y x)) [
      | inl same ↦
          inl (sym (with-there g x v held) ∙ ap (value_at (with_value g x v)) (sym (is_same-true y x same)) ∙ found.3)
      | inr other ↦
          inr (y, other, found.1, found.2, sym (with-others g x y v held found.1 other) ∙ found.3)
    ]

another-held : (p : Cell → Bool) (g : Grid) (x : Cell) (v : Option ℤ) (z : ℤ) → holds g.extent x ≡ true
    → Another p g x z → Holds p (with_value g x v) z
another-held p g x v z held other =
    (other.0, other.2, other.3, with-others g x other.0 v held other.2 other.1 ∙ other.4)

-- ---- what is gathered, in the inputs and in the changed ones

-- the value of o is what is gathered of the first input, which holds values; x is among the cells that pass
pub record Gathers (m : ℤ → ℤ → ℤ) (p : Cell → Bool) (r : ℤ → Bool) (s : Site) (inputs : List Grid) (o x : Cell)
    : Type 0
  where
    pub now : value_of s.op inputs o ≡ gathered m p r (input_at inputs 0)
    pub changed : (v : Option ℤ)
        → value_of s.op (changed_at inputs 0 x v) o ≡ gathered m p r (with_value (input_at inputs 0) x v)
    pub held : holds (input_at inputs 0).extent x ≡ true
    pub passes : p x ≡ true
    pub values : (y : Cell) → holds (input_at inputs 0).extent y ≡ true → IsValue (value_at (input_at inputs 0) y)

-- by the end or by 0, where no other cell holds the end
pub gathered-differs : (m : ℤ → ℤ → ℤ) (end : ℤ) → IsTowards m end → fit end ≡ Some end → (end ≡ pos 0 → ⊥)
    → (p : Cell → Bool) (r : ℤ → Bool) → r end ≡ true → (s : Site) (inputs : List Grid) (o x : Cell)
    → Gathers m p r s inputs o x → (Another p (input_at inputs 0) x end → ⊥)
    → (z : ℤ) × (fit z ≡ Some z) × ValueDiffers s inputs 0 o x (Some z)
gathered-differs m end towards fits some p r passed s inputs o x gathers alone =
    let g = input_at inputs 0 in
    let b : ℤ → Grid = λ z. with_value g x (Some z) in
    let to_end : gathered m p r (b end) ≡ Some end =
    gathered-from m end towards p r (b end)
    (changed-values g x (Some end) gathers.held gathers.values fits) passed
    (x, gathers.held, gathers.passes, with-there g x (Some end) gathers.held) in
    let apart : gathered m p r (b end) ≡ gathered m p r (b (pos 0)) → ⊥ =
    λ same.
    elim (held-either p g x (Some (pos 0)) end gathers.held
    (gathered-to m end towards p r (b (pos 0)) (sym same ∙ to_end))) [
      | inl here ↦ let one : end ≡ pos 0 = cc in some one
      | inr other ↦ alone other
    ] in
    elim (either-differs (value_of s.op inputs o) (gathered m p r (b end)) (gathered m p r (b (pos 0))) apart) [
      | inl first ↦ (end, fits, λ h. first (h ∙ gathers.changed (Some end)))
      | inr second ↦ (pos 0, refl, λ h. second (h ∙ gathers.changed (Some (pos 0))))
    ]

-- by nothing, where another cell does
pub gathered-idle : (m : ℤ → ℤ → ℤ) (end : ℤ) → IsTowards m end → (p : Cell → Bool) (r : ℤ → Bool) → r end ≡ true
    → (s : Site) (inputs : List Grid) (o x : Cell) → Gathers m p r s inputs o x → Matters s inputs 0 o x
    → Another p (input_at inputs 0) x end → ⊥
gathered-idle m end towards p r passed s inputs o x gathers matters other =
    let g = input_at inputs 0 in
    let v = matters.0 in
    let now : gathered m p r g ≡ Some end =
    gathered-from m end towards p r g gathers.values passed (other.0, other.2, other.3, other.4) in
    let new : gathered m p r (with_value g x v) ≡ Some end =
    gathered-from m end towards p r (with_value g x v)
    (changed-values g x v gathers.held gathers.values matters.1) passed (another-held p g x v end gathers.held other) in
    matters.2 (gathers.now ∙ now ∙ sym (gathers.changed v ∙ new))

-- ---- folds

filter-all : (zs : List ℤ) → filter (λ _. true) zs ≡ zs
filter-all [] = refl
filter-all (z ∷ zs) = ap (λ (ys : List ℤ). z ∷ ys) (filter-all zs)

-- an array of an operator at work whose inputs hold values holds them
pub holds-values : (s : Site) (inputs : List Grid) → IsAtWork s inputs → HoldValues s inputs → 0 < length s.ins
    → AreValues (input_at inputs 0)
holds-values s inputs work values inside y held =
    values 0 y inside (ap (λ (e : Extent). holds e y) (sym (extent-of_site s inputs 0 work)) ∙ held)

-- a fold that makes such a choice
folded-gathers : (op : Op) (fold : Fold) (m : ℤ → ℤ → ℤ) → IsFolding op fold
    → ((zs : List ℤ) → fold_of fold zs ≡ reduce m zs)
    → (s : Site) (inputs : List Grid) (o x : Cell) → s.op ≡ op → IsSupported s inputs 0 o x → HoldValues s inputs
    → Gathers m (mapped op (extents_of inputs) 0 o) (λ _. true) s inputs o x
folded-gathers op fold m folding chooses s inputs o x is known values =
    let es = extents_of inputs in
    let g = input_at inputs 0 in
    let p = mapped op es 0 o in
    let many : length s.ins ≡ 1 = ((known.work).site).arity ∙ ap arity is ∙ folding.one in
    let value : (gs : List Grid) → value_of s.op gs o ≡ reduce m (mapped_numbers op gs o) =
    λ gs. ap (λ (a : Op). value_of a gs o) is ∙ folding.value gs o ∙ chooses (mapped_numbers op gs o) in
    let all : (d : Grid) → reduce m (numbers_at d (cells_where d.extent p)) ≡ gathered m p (λ _. true) d =
    λ d. ap (reduce m) (sym (filter-all (numbers_at d (cells_where d.extent p)))) in
    record {
      now = value inputs ∙ all g;
      changed = λ v.
          value (changed_at inputs 0 x v)
          ∙ ap₂ (λ (d : Grid) (z : List Extent). reduce m (numbers_at d (cells_where d.extent (mapped op z 0 o))))
          (changed-there inputs 0 x v (omega (arith, many, inputs-many s inputs known.work)))
          (changed-extents inputs 0 x v)
          ∙ all (with_value g x v);
      held = ap (λ (e : Extent). holds e x) (extent-of_site s inputs 0 known.work) ∙ known.there;
      passes = sym (folding.mapping inputs 0 o x) ∙ sym (ap (λ (a : Op). supports a inputs 0 o x) is) ∙ known.supports;
      values = holds-values s inputs known.work values (omega (arith, many));
    }

-- another cell of an array that passes is another that supports
pub another-supports : (s : Site) (inputs : List Grid) (o x : Cell) (p : Cell → Bool) (z : ℤ) → IsAtWork s inputs
    → ((y : Cell) → p y ≡ supports s.op inputs 0 o y)
    → (Another p (input_at inputs 0) x z) ↔ (AnotherHolds s inputs 0 o x z)
another-supports s inputs o x p z work same =
    let shape = extent-of_site s inputs 0 work in (
      λ other. (
        other.0,
        other.1,
        ap (λ (e : Extent). holds e other.0) (sym shape) ∙ other.2,
        sym (same other.0) ∙ other.3,
        other.4,
      ),
      λ other. (
        other.0,
        other.1,
        ap (λ (e : Extent). holds e other.0) shape ∙ other.2,
        same other.0 ∙ other.3,
        other.4,
      ),
    )

extremes-matter : (op : Op) (fold : Fold) (m : ℤ → ℤ → ℤ) (end : ℤ) → IsFolding op fold
    → ((zs : List ℤ) → fold_of fold zs ≡ reduce m zs) → IsTowards m end → fit end ≡ Some end → (end ≡ pos 0 → ⊥)
    → EachMattersUnlessAnother op end
extremes-matter op fold m end folding chooses towards fits some s inputs i o x is known values =
    let told : supports op inputs i o x ≡ true =
    sym (ap (λ (a : Op). supports a inputs i o x) is) ∙ known.supports in
    let first = related-inputs op inputs i o x (sym (folding.supported inputs i o x) ∙ told) in
    let number : 0 ≡ i = omega (arith, first, folding.one) in
    let here : IsSupported s inputs 0 o x = subst (λ (k : ℕ). IsSupported s inputs k o x) (sym number) known in
    let p = mapped op (extents_of inputs) 0 o in
    let gathers = folded-gathers op fold m folding chooses s inputs o x is here values in
    let others = another-supports s inputs o x p end known.work
    (λ y. sym (folding.mapping inputs 0 o y) ∙ sym (ap (λ (a : Op). supports a inputs 0 o y) is)) in
    subst (λ (k : ℕ). MattersExactlyWhere (AnotherHolds s inputs k o x end → ⊥) s inputs k o x) number (
      λ alone.
          gathered-differs m end towards fits some p (λ _. true) refl s inputs o x gathers
          (λ other. alone (others.0 other)),
      λ matters other.
          gathered-idle m end towards p (λ _. true) refl s inputs o x gathers matters (others.1 other),
    )

least-of : (op : Op) → IsFolding op Min → EachMattersUnlessAnother op least_i64
least-of op folding = extremes-matter op Min int_min least_i64 folding (λ zs. refl) least-end refl (λ h. cc)

greatest-of : (op : Op) → IsFolding op Max → EachMattersUnlessAnother op greatest_i64
greatest-of op folding = extremes-matter op Max int_max greatest_i64 folding (λ zs. refl) greatest-end refl (λ h. cc)

pub least-matter : CellsOfLeastMatter
least-matter height width = least-of (Block Min height width) (folding-block Min height width)

pub least-of_layers_matter : CellsOfLeastOfLayersMatter
least-of_layers_matter = least-of (FoldLayers Min) (folding-layers Min)

pub greatest-matter : CellsOfGreatestMatter
greatest-matter height width = greatest-of (Block Max height width) (folding-block Max height width)

pub greatest-of_layers_matter : CellsOfGreatestOfLayersMatter
greatest-of_layers_matter = greatest-of (FoldLayers Max) (folding-layers Max)
