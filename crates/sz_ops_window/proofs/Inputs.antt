-- What the operators take: one input, of the output's shape, and to which of its cells they relate a cell.
use Rattle.std.proofs.Common.{◌≡◌, ℕ, ◌<◌, true, false, true≢false, List, [], ◌∷◌, length, refl, sym, ap}
use Rattle.std.proofs.Common.{◌∙◌, arith, Bool, FitsSigned, to_z, of_z, w64}
use Rattle.std.proofs.lemmas.Int.{to_z-of_z}
use Rattle.std.specs.Prelude.{ℤ, Result, Ok}
use Rattle.std.specs.Result.{result_unwrap_or}
use Rattle.sz_cells.specs.declared.Cell.{Cell}
use Rattle.sz_cells.specs.Extent.{Extent}
use Rattle.sz_cells.specs.Cells.{Cells, with_those}
use Rattle.sz_spec.specs.declared.modes.Dir.{Dir}
use Rattle.sz_spec.specs.declared.modes.Dir.TheVariants.{Back, Forward}
use Rattle.sz_spec.specs.declared.op.Op.{Op}
use Rattle.sz_spec.specs.declared.op.Op.TheVariants.{Neg}
use Rattle.sz_spec.specs.declared.op.Op.TheVariants.{Convolve}
use Rattle.sz_spec.specs.declared.op.Op.TheVariants.{Clean}
use Rattle.sz_spec.specs.declared.shapes.ShapeFault.{ShapeFault}
use Rattle.sz_spec.specs.Values.{Grid, no_extent, extent_at, input_at}
use Rattle.sz_spec.specs.Shapes.{Site, IsSite, arity, shape_of}
use Rattle.sz_spec.specs.Weights.{Weights}
use Rattle.sz_spec.specs.Operators.Convolve.{is_convolved}
use Rattle.sz_spec.specs.Operators.Clean.{is_hot, is_in_square}
use Rattle.sz_spec.specs.Lineage.{mapped, related}
use Rattle.sz_spec.specs.Work.{IsAtWork}
use Rattle.sz_frame.specs.Walks.{steps}
use Rattle.sz_frame.proofs.Added.{with-ext}
use Rattle.sz_frame.proofs.Inputs.{input-extent}
use Rattle.sz_ops_window.specs.Windowed.{is_windowed}
use Rattle.sz_ops_window.specs.Taps.{one, nine}
use Rattle.sz_ops_window.proofs.Squares.{nine-square, one-same}

-- the shape of a list of one
one-shape : (xs : List Extent) → length xs ≡ 1 → xs ≡ extent_at xs 0 ∷ []
one-shape [] count = absurd (omega arith)
one-shape (x ∷ []) count = refl
one-shape (x ∷ y ∷ xs) count = absurd (omega arith)

first-is : (ins : List Extent) (out : Extent) → shape_of Neg ins ≡ Ok out → extent_at ins 0 ≡ out
first-is ins out rule = ap (λ (r : Result Extent ShapeFault). result_unwrap_or r no_extent) rule

by-op : (op : Op) (ins : List Extent) (out : Extent) → is_windowed op ≡ true → shape_of op ins ≡ Ok out
    → length ins ≡ arity op → (extent_at ins 0 ≡ out) × (length ins ≡ 1)
by-op (Convolve kernel) ins out h rule count = (first-is ins out rule, count)
by-op (Clean t) ins out h rule count = (first-is ins out rule, count)
by-op _ ins out h rule count = absurd (true≢false (sym h))

-- one input, and its shape is the output's
pub one-input : (s : Site) → is_windowed s.op ≡ true → IsSite s → s.ins ≡ s.out ∷ []
one-input s h site =
    let both = by-op s.op s.ins s.out h site.shape site.arity in
    one-shape s.ins both.1 ∙ ap (λ (e : Extent). e ∷ []) both.0

pub no-other_input : (s : Site) (i : ℕ) → s.ins ≡ s.out ∷ [] → i < length s.ins → i ≡ 0
no-other_input s i is few = let count = ap (λ (xs : List Extent). length xs) is in omega (arith, count, few)

pub input-side : (s : Site) (i : ℕ) → s.ins ≡ s.out ∷ [] → i < length s.ins → extent_at s.ins i ≡ s.out
input-side s i is few =
    ap (extent_at s.ins) (no-other_input s i is few) ∙ ap (λ (es : List Extent). extent_at es 0) is

-- the input's shape
pub input-shape : (s : Site) (inputs : List Grid) → is_windowed s.op ≡ true → IsAtWork s inputs
    → (input_at inputs 0).extent ≡ s.out
input-shape s inputs h work =
    input-extent s inputs 0 work ∙ ap (λ (es : List Extent). extent_at es 0) (one-input s h work.site)

-- a convolution leads to the cells under its kernel
pub convolve-mapped : (s : Site) (kernel : Weights) (i : ℕ) (o x : Cell) → s.op ≡ Convolve kernel
    → s.ins ≡ s.out ∷ [] → i < length s.ins → is_convolved s.out kernel o x ≡ mapped s.op s.ins i o x
convolve-mapped s kernel i o x is ins few =
    rw (is, no-other_input s i ins few)
    (ap (λ (e : Extent). is_convolved e kernel o x) (sym (ap (λ (es : List Extent). extent_at es 0) ins)))

-- what a step under the weights adds is what a step of the mapping adds
pub steps-mapped : (dir : Dir) (s : Site) (kernel : Weights) (i : ℕ) (from : Cell) (to : Cells)
    → s.op ≡ Convolve kernel → s.ins ≡ s.out ∷ [] → i < length s.ins
    → with_those to (steps dir (is_convolved s.out kernel) from) ≡ with_those to (steps dir (mapped s.op s.ins i) from)
steps-mapped Back s kernel i from to is ins few =
    with-ext to (is_convolved s.out kernel from) (mapped s.op s.ins i from)
    (λ x held. convolve-mapped s kernel i from x is ins few)
steps-mapped Forward s kernel i from to is ins few =
    with-ext to (λ o. is_convolved s.out kernel o from) (λ o. mapped s.op s.ins i o from)
    (λ o held. convolve-mapped s kernel i o from is ins few)

-- clean is one of these operators
pub clean-windowed : (s : Site) (t : ℤ) → s.op ≡ Clean t → is_windowed s.op ≡ true
clean-windowed s t is = rw is refl

-- so its one input has the output's shape, and what it relates does not hang on which input is asked for
pub clean-side : (s : Site) (t : ℤ) (i : ℕ) → s.op ≡ Clean t → IsSite s → i < length s.ins → extent_at s.ins i ≡ s.out
clean-side s t i is site few = input-side s i (one-input s (clean-windowed s t is) site) few

pub clean-related : (s : Site) (t : ℤ) (grids : List Grid) (i : ℕ) (o x : Cell) → s.op ≡ Clean t → IsSite s
    → i < length s.ins → related s.op grids 0 o x ≡ related s.op grids i o x
clean-related s t grids i o x is site few =
    ap (λ (n : ℕ). related s.op grids n o x) (sym (no-other_input s i (one-input s (clean-windowed s t is) site) few))

-- clean relates a hot cell to its square, and any other to itself
pub hot-related : (s : Site) (inputs : List Grid) (t : ℤ) (o x : Cell) → s.op ≡ Clean t → is_windowed s.op ≡ true
    → IsAtWork s inputs → is_hot t (input_at inputs 0) o ≡ true
    → is_convolved s.out nine o x ≡ related s.op inputs 0 o x
hot-related s inputs t o x is h work hot =
    nine-square s.out o x
    ∙ ap (λ (e : Extent). is_in_square e o x) (sym (input-shape s inputs h work))
    ∙ (rw (is, hot) refl)

pub other-related : (s : Site) (inputs : List Grid) (t : ℤ) (o x : Cell) → s.op ≡ Clean t
    → is_hot t (input_at inputs 0) o ≡ false → is_convolved s.out one o x ≡ related s.op inputs 0 o x
other-related s inputs t o x is cold = one-same s.out o x ∙ (rw (is, cold) refl)

-- whether a cell is hot, as a call tells it
pub hot-told : (t : ℤ) (g given : Grid) (o : Cell) (told answer : Bool) → FitsSigned w64 t → given ≡ g
    → told ≡ is_hot (to_z w64 (of_z w64 t)) given o → told ≡ answer → is_hot t g o ≡ answer
hot-told t g given o told answer fits same is answers =
    ap (λ (h : Grid). is_hot t h o) (sym same)
    ∙ ap (λ (z : ℤ). is_hot z given o) (sym (to_z-of_z w64 t fits))
    ∙ sym is ∙ answers
