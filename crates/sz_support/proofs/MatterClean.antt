-- What follows of clean: which cells matter to what it makes of a cell, and which do not.
--
-- The key idea: what a hot cell becomes is the least of the sound numbers round it, so it goes as with a fold of the
-- least; and where the threshold is not above the least i64, every number is hot, and all that is made is empty.
use Rattle.std.proofs.Common.{◌≡◌, ◌<◌, ℤ, Bool, true, false, not, List, length}
use Rattle.std.proofs.Common.{Option, Some, None, Ok, refl, sym, ap, ◌∙◌, arith, inl, inr}
use Rattle.std.specs.Prelude.{int_lt, int_le, option_and_then}
use Rattle.std.specs.Int.{int_min}
use Rattle.std.proofs.lemmas.Bool.{true≢false, true_from_ne_false}
use Rattle.std.proofs.lemmas.Int.{ints}
use Rattle.sz_cells.specs.declared.Cell.{Cell}
use Rattle.sz_cells.specs.Extent.{Extent, holds}
use Rattle.sz_cells.specs.Cells.{is_same}
use Rattle.sz_cells.proofs.Sets.{is_same-flip}
use Rattle.sz_spec.specs.declared.op.Op.{Op}
use Rattle.sz_spec.specs.declared.op.Op.TheVariants.{Clean}
use Rattle.sz_spec.specs.Values.{Grid, fit, value_at, input_at, extent_at}
use Rattle.sz_spec.specs.Shapes.{Site, arity, shape_of}
use Rattle.sz_spec.specs.Evaluation.{value_of}
use Rattle.sz_spec.specs.Operators.Clean.{is_at_least, is_hot, is_in_square, cleaned_at}
use Rattle.sz_spec.specs.Supports.{supports}
use Rattle.sz_spec.specs.Work.{IsAtWork}
use Rattle.sz_spec.proofs.PayloadLineage.{extent-of_site}
use Rattle.sz_support.specs.Changes.{with_value, changed_at, HoldValues, Matters}
use Rattle.sz_support.specs.LawsExactly.{least_i64, OwnCellsOfCleanMatter, CellsRoundHotOnesMatter}
use Rattle.sz_support.proofs.ChangedInputs.{with-there, with-others, changed-there, inputs-many}
use Rattle.sz_support.proofs.Differing.{either-differs}
use Rattle.sz_support.proofs.Extremes.{gathered-none, above-least, least-end}
use Rattle.sz_support.proofs.MatterExtremes.{Gathers, AreValues, changed-values, gathered-differs, gathered-idle}
use Rattle.sz_support.proofs.MatterExtremes.{holds-values, another-supports}

-- a number is sound where it is not hot
abbrev is_sound : ℤ → ℤ → Bool
is_sound t z = not (int_le t z)

sound-least : (t : ℤ) → int_lt least_i64 t ≡ true → is_sound t least_i64 ≡ true
sound-least t above = let low : int_le t least_i64 ≡ false = grind (arith, ints) in rw low refl

-- ---- where the threshold is not above the least i64

each-hot : (t z : ℤ) → int_lt least_i64 t ≡ false → fit z ≡ Some z → int_le t z ≡ true
each-hot t z low fits = let above = above-least z fits in grind (arith, ints)

-- all that is made is empty
cleaned-none : (t : ℤ) (g : Grid) (o : Cell) → int_lt least_i64 t ≡ false → AreValues g → holds g.extent o ≡ true
    → cleaned_at t g o ≡ None
cleaned-none t g o low values held = by-value (value_at g o) refl where
  by-value : (v : Option ℤ) → value_at g o ≡ v → cleaned_at t g o ≡ None
  by-value None there = let cold : is_hot t g o ≡ false = ap (is_at_least t) there in rw cold there
  by-value (Some z) there =
      let hot : is_hot t g o ≡ true =
      ap (is_at_least t) there
      ∙ each-hot t z low (sym (ap (λ (v : Option ℤ). option_and_then fit v) there) ∙ values o held ∙ there) in
      rw hot
      (gathered-none int_min (is_in_square g.extent o) (is_sound t) g values
      (λ y fits. rw (each-hot t y low fits) refl))

-- ---- changed inputs of clean

-- what is known of inputs of clean that are changed at a cell
record Changed (t : ℤ) (s : Site) (inputs : List Grid) (x : Cell) : Type 0 where
  extent : (input_at inputs 0).extent ≡ extent_at s.ins 0
  out : extent_at s.ins 0 ≡ s.out
  inside : 0 < length s.ins
  now : (o : Cell) → value_of s.op inputs o ≡ cleaned_at t (input_at inputs 0) o
  changed : (v : Option ℤ) (o : Cell)
      → value_of s.op (changed_at inputs 0 x v) o ≡ cleaned_at t (with_value (input_at inputs 0) x v) o

changed-of : (t : ℤ) (s : Site) (inputs : List Grid) (x : Cell) → s.op ≡ Clean t → IsAtWork s inputs
    → Changed t s inputs x
changed-of t s inputs x is work =
    let told : shape_of (Clean t) s.ins ≡ Ok s.out = ap (λ (p : Op). shape_of p s.ins) (sym is) ∙ (work.site).shape in
    let many : length s.ins ≡ 1 = (work.site).arity ∙ ap arity is in
    let value : (gs : List Grid) (o : Cell) → value_of s.op gs o ≡ cleaned_at t (input_at gs 0) o =
    λ gs o. ap (λ (p : Op). value_of p gs o) is in
    record {
      extent = extent-of_site s inputs 0 work;
      out = cc;
      inside = omega (arith, many);
      now = value inputs;
      changed = λ v o.
          value (changed_at inputs 0 x v) o
          ∙ ap (λ (g : Grid). cleaned_at t g o)
          (changed-there inputs 0 x v (omega (arith, many, inputs-many s inputs work)));
    }

-- where the threshold is not above the least i64 no cell matters
low-idle : (t : ℤ) (s : Site) (inputs : List Grid) (o x : Cell) → s.op ≡ Clean t → IsAtWork s inputs
    → holds s.out o ≡ true → holds (input_at inputs 0).extent x ≡ true → HoldValues s inputs
    → Matters s inputs 0 o x → int_lt least_i64 t ≡ true
low-idle t s inputs o x is work held there values matters =
    let change = changed-of t s inputs x is work in
    let g = input_at inputs 0 in
    let right = holds-values s inputs work values change.inside in
    let held_o : holds g.extent o ≡ true = ap (λ (e : Extent). holds e o) (change.extent ∙ change.out) ∙ held in
    true_from_ne_false (int_lt least_i64 t)
    (λ low.
    matters.2
    (change.now o ∙ cleaned-none t g o low right held_o
    ∙ sym (change.changed matters.0 o
    ∙ cleaned-none t (with_value g x matters.0) o low (changed-values g x matters.0 there right matters.1) held_o)))

-- ---- its own cell

pub own_clean-matter : OwnCellsOfCleanMatter
own_clean-matter t s inputs o is work held values =
    let change = changed-of t s inputs o is work in
    let g = input_at inputs 0 in
    let held_o : holds g.extent o ≡ true = ap (λ (e : Extent). holds e o) (change.extent ∙ change.out) ∙ held in (
      λ above.
          let empty : cleaned_at t (with_value g o None) o ≡ None =
          let there = with-there g o None held_o in
          let cold : is_hot t (with_value g o None) o ≡ false = ap (is_at_least t) there in
          rw cold there in
          let least : cleaned_at t (with_value g o (Some least_i64)) o ≡ Some least_i64 =
          let there = with-there g o (Some least_i64) held_o in
          let low : int_le t least_i64 ≡ false = grind (arith, ints) in
          let cold : is_hot t (with_value g o (Some least_i64)) o ≡ false = ap (is_at_least t) there ∙ low in
          rw cold there in
          elim (either-differs (value_of s.op inputs o) None (Some least_i64) (λ h. cc)) [
            | inl first ↦ inl (λ h. first (h ∙ change.changed None o ∙ empty))
            | inr second ↦ inr (λ h. second (h ∙ change.changed (Some least_i64) o ∙ least))
          ],
      low-idle t s inputs o o is work held held_o values,
    )

-- ---- a cell round a hot one

pub round_hot-matter : CellsRoundHotOnesMatter
round_hot-matter t s inputs o x is known apart values =
    let change = changed-of t s inputs x is known.work in
    let g = input_at inputs 0 in
    let e = g.extent in
    let p = is_in_square e o in
    let r = is_sound t in
    let held : holds e x ≡ true = ap (λ (d : Extent). holds d x) change.extent ∙ known.there in
    let held_o : holds e o ≡ true = ap (λ (d : Extent). holds d o) (change.extent ∙ change.out) ∙ known.held in
    let told : supports (Clean t) inputs 0 o x ≡ true =
    sym (ap (λ (a : Op). supports a inputs 0 o x) is) ∙ known.supports in
    let hot : is_hot t g o ≡ true =
    true_from_ne_false (is_hot t g o)
    (λ cold. let same : is_same x o ≡ true = rw cold at told in true≢false (sym same ∙ apart)) in
    let near : p x ≡ true = rw hot at told in
    let other : is_same o x ≡ false = is_same-flip o x ∙ apart in
    let hot_still : (v : Option ℤ) → is_hot t (with_value g x v) o ≡ true =
    λ v. ap (is_at_least t) (with-others g x o v held held_o other) ∙ hot in
    let gathers : Gathers int_min p r s inputs o x =
    record {
      now = change.now o ∙ rw hot refl;
      changed = λ v. change.changed v o ∙ rw (hot_still v) refl;
      held = held;
      passes = near;
      values = holds-values s inputs known.work values change.inside;
    } in
    let others = another-supports s inputs o x p least_i64 known.work
    (λ y.
    let square : supports (Clean t) inputs 0 o y ≡ p y = rw hot refl in
    sym square ∙ sym (ap (λ (a : Op). supports a inputs 0 o y) is)) in (
      λ where_matters.
          gathered-differs int_min least_i64 least-end refl (λ h. cc) p r (sound-least t where_matters.0) s inputs o x
          gathers
          (λ another. where_matters.1 (others.0 another)),
      λ matters.
          let above = low-idle t s inputs o x is known.work known.held held values matters in (
            above,
            λ another.
                gathered-idle int_min least_i64 least-end p r (sound-least t above) s inputs o x gathers matters
                (others.1 another),
          ),
    )
