-- The three operators that have payloads: their shapes, their payloads, and what these stand for.
use Rattle.std.proofs.Common.{◌≡◌, ℕ, ◌<◌, Bool, true, false, ◌&&◌, ◌==◌, List, [], ◌∷◌, length}
use Rattle.std.proofs.Common.{refl, sym, ap, ◌∙◌, arith, inl, inr, eqb-true, eq-eqb, true≢false, ◌≢◌, get_or}
use Rattle.std.proofs.lemmas.Bool.{ne_eqb}
use Rattle.std.specs.Prelude.{Result, Ok, Err, slice_index}
use Rattle.std.specs.Result.{result_unwrap_or}
use Rattle.std.proofs.lemmas.Bool.{cases_Bool}
use Rattle.sz_cells.specs.declared.Cell.{Cell}
use Rattle.sz_cells.specs.Extent.{Extent}
use Rattle.sz_cells.specs.Cells.{is_same, has}
use Rattle.sz_cells.specs.SetWords.{is_set_word, set_spelled}
use Rattle.sz_cells.proofs.Sets.{is_same-flip}
use Rattle.sz_spec.specs.declared.op.Op.{Op}
use Rattle.sz_spec.specs.declared.op.Op.TheVariants.{Lookup, Regions, Clean}
use Rattle.sz_spec.specs.declared.shapes.ShapeFault.{ShapeFault}
use Rattle.sz_spec.specs.declared.shapes.ShapeFault.TheVariants.{NotOneRow}
use Rattle.sz_spec.specs.Values.{extent_at, no_extent}
use Rattle.sz_spec.specs.Shapes.{arity, shape_of}
use Rattle.sz_spec.specs.Modes.{has_mapping}
use Rattle.sz_spec.specs.Lineage.{mapped}
use Rattle.sz_spec.specs.Payloads.{is_payload, mapped_by_payload, is_none_or, set_kept, square_kept}
use Rattle.sz_spec.specs.Payloads.{is_flag}
use Rattle.sz_payload.specs.Kept.{IsRegions, IsClean}

abbrev ok : Extent → Result Extent ShapeFault
ok a = Ok a

abbrev fault : ShapeFault → Result Extent ShapeFault
fault f = Err f

ok-one : (a b : Extent) → ok a ≡ ok b → a ≡ b
ok-one a b same = ap (λ (r : Result Extent ShapeFault). result_unwrap_or r no_extent) same

-- the output has the shape of the first input
pub own-shape : (op : Op) (ins : List Extent) (out : Extent) → has_mapping op ≡ false → shape_of op ins ≡ Ok out
    → extent_at ins 0 ≡ out
own-shape Lookup ins out none is =
    elim (cases_Bool ((extent_at ins 1).rows == 1)) [
      | inl one ↦ ok-one (extent_at ins 0) out (rw one at is)
      | inr other ↦ let never : fault NotOneRow ≡ ok out = rw other at is in cc
    ]
own-shape (Regions t) ins out none is = ok-one (extent_at ins 0) out is
own-shape (Clean t) ins out none is = ok-one (extent_at ins 0) out is
own-shape _ ins out none is = absurd (true≢false none)

-- the table of a lookup has one row
pub table-row : (ins : List Extent) (out : Extent) → shape_of Lookup ins ≡ Ok out → (extent_at ins 1).rows ≡ 1
table-row ins out is =
    elim (cases_Bool ((extent_at ins 1).rows == 1)) [
      | inl one ↦ eqb-true (extent_at ins 1).rows 1 one
      | inr other ↦ let never : fault NotOneRow ≡ ok out = rw other at is in cc
    ]

-- the composite default is the same cell of the first input
pub default-same : (op : Op) (ins : List Extent) (i : ℕ) (o x : Cell) → has_mapping op ≡ false
    → mapped op ins i o x ≡ ((i == 0) && is_same x o)
default-same Lookup ins i o x none = refl
default-same (Regions t) ins i o x none = refl
default-same (Clean t) ins i o x none = refl
default-same _ ins i o x none = absurd (true≢false none)

-- connected regions: one input, no byte or the bytes of a set
pub regions-arity : (op : Op) → IsRegions op → arity op ≡ 1
regions-arity (Regions t) is = refl
regions-arity _ is = absurd is

pub regions-none : (op : Op) → IsRegions op → has_mapping op ≡ false
regions-none (Regions t) is = refl
regions-none _ is = absurd is

pub regions-payload : (op : Op) (ins : List Extent) (p : List ℕ) → IsRegions op
    → is_payload op ins p ≡ is_none_or (is_set_word (extent_at ins 0)) p
regions-payload (Regions t) ins p is = refl
regions-payload _ ins p is = absurd is

pub regions-mapped : (op : Op) (ins : List Extent) (p : List ℕ) (i : ℕ) (o x : Cell) → IsRegions op
    → mapped_by_payload op ins p i o x ≡ ((i == 0) && set_kept (extent_at ins 0) p o x)
regions-mapped (Regions t) ins p i o x is = refl
regions-mapped _ ins p i o x is = absurd is

-- cleaning: one input, and one byte
pub clean-arity : (op : Op) → IsClean op → arity op ≡ 1
clean-arity (Clean t) is = refl
clean-arity _ is = absurd is

pub clean-none : (op : Op) → IsClean op → has_mapping op ≡ false
clean-none (Clean t) is = refl
clean-none _ is = absurd is

pub clean-payload : (op : Op) (ins : List Extent) (p : List ℕ) → IsClean op → is_payload op ins p ≡ is_flag p
clean-payload (Clean t) ins p is = refl
clean-payload _ ins p is = absurd is

pub clean-mapped : (op : Op) (ins : List Extent) (p : List ℕ) (i : ℕ) (o x : Cell) → IsClean op
    → mapped_by_payload op ins p i o x ≡ ((i == 0) && square_kept (extent_at ins 0) p o x)
clean-mapped (Clean t) ins p i o x is = refl
clean-mapped _ ins p i o x is = absurd is

-- some bytes: what is said of them is said where there is one
pub none-or : (test : List ℕ → Bool) (p : List ℕ) → 0 < length p → is_none_or test p ≡ test p
none-or test [] some = absurd (omega arith)
none-or test (b ∷ p) some = refl

-- over another input than the first there is no default, and over the first it is the same cell
pub no-default : (op : Op) (ins : List Extent) (i : ℕ) (o x : Cell) → has_mapping op ≡ false → i ≢ 0
    → mapped op ins i o x ≡ false
no-default op ins i o x none other = default-same op ins i o x none ∙ (rw (ne_eqb i 0 other) refl)

pub own-default : (op : Op) (ins : List Extent) (i : ℕ) (o x : Cell) → has_mapping op ≡ false → i ≡ 0
    → mapped op ins i o x ≡ is_same o x
own-default op ins i o x none first =
    default-same op ins i o x none ∙ (rw (eq-eqb i 0 first) (is_same-flip x o))

pub none-lawful : (test : List ℕ → Bool) (p : List ℕ) → length p ≡ 0 → is_none_or test p ≡ true
none-lawful test [] none = refl
none-lawful test (b ∷ p) none = absurd (omega arith)

-- whether there are bytes
pub some-bytes : (p : List ℕ) → (length p == 0) ≡ false → 0 < length p
some-bytes [] some = absurd (true≢false some)
some-bytes (b ∷ p) some = omega arith

pub no-bytes : (p : List ℕ) → (length p == 0) ≡ true → length p ≡ 0
no-bytes p none = eqb-true (length p) 0 none

-- the one input of connected regions, and of cleaning
pub regions-first : (op : Op) (ins : List Extent) (i : ℕ) → IsRegions op → length ins ≡ arity op → i < length ins
    → i ≡ 0
regions-first op ins i is whole below = omega (arith, regions-arity op is, whole, below)

pub clean-first : (op : Op) (ins : List Extent) (i : ℕ) → IsClean op → length ins ≡ arity op → i < length ins
    → i ≡ 0
clean-first op ins i is whole below = omega (arith, clean-arity op is, whole, below)

pub near-first : (ins : List Extent) (i : ℕ) → i ≡ 0 → extent_at ins i ≡ extent_at ins 0
near-first ins i first = ap (extent_at ins) first

pub first-shape : (ins given : List Extent) (e : Extent) → given ≡ ins → 0 < length ins → e ≡ get_or given 0 e
    → e ≡ extent_at ins 0
first-shape ins [] e same some is = absurd (omega (arith, ap length same))
first-shape ins (d ∷ given) e same some is = is ∙ ap (λ xs. extent_at xs 0) same

-- what payloads of connected regions stand for
pub regions-alone : (op : Op) (ins : List Extent) (p : List ℕ) (i : ℕ) (o x : Cell) → IsRegions op → i ≡ 0
    → length p ≡ 0 → mapped_by_payload op ins p i o x ≡ is_same o x
regions-alone op ins [] i o x is first none =
    regions-mapped op ins [] i o x is ∙ (rw (eq-eqb i 0 first) (is_same-flip x o))
regions-alone op ins (b ∷ p) i o x is first none = absurd (omega arith)

pub regions-set : (op : Op) (ins : List Extent) (p : List ℕ) (e : Extent) (i : ℕ) (o x : Cell) → IsRegions op
    → i ≡ 0 → 0 < length p → e ≡ extent_at ins 0
    → mapped_by_payload op ins p i o x ≡ has (set_spelled e p) x
regions-set op ins [] e i o x is first some same = absurd (omega arith)
regions-set op ins (b ∷ p) e i o x is first some same =
    regions-mapped op ins (b ∷ p) i o x is ∙ (rw (eq-eqb i 0 first, same) refl)

pub regions-word : (op : Op) (ins : List Extent) (p : List ℕ) (e : Extent) → IsRegions op → 0 < length p
    → e ≡ extent_at ins 0 → is_payload op ins p ≡ true → is_set_word e p ≡ true
regions-word op ins p e is some same lawful =
    ap (λ d. is_set_word d p) same ∙ sym (none-or (is_set_word (extent_at ins 0)) p some)
    ∙ sym (regions-payload op ins p is) ∙ lawful

-- and those of cleaning whose byte is not 1
flag-alone : (e : Extent) (p : List ℕ) (o x : Cell) → is_flag p ≡ true → (slice_index p 0 == 1) ≡ false
    → square_kept e p o x ≡ is_same x o
flag-alone e (b ∷ []) o x flag cold = rw cold refl
flag-alone e [] o x flag cold = refl
flag-alone e (a ∷ b ∷ p) o x flag cold = refl

pub clean-alone : (op : Op) (ins : List Extent) (p : List ℕ) (i : ℕ) (o x : Cell) → IsClean op → i ≡ 0
    → is_payload op ins p ≡ true → (slice_index p 0 == 1) ≡ false → mapped_by_payload op ins p i o x ≡ is_same o x
clean-alone op ins p i o x is first lawful cold =
    clean-mapped op ins p i o x is
    ∙ (rw (eq-eqb i 0 first, flag-alone (extent_at ins 0) p o x (sym (clean-payload op ins p is) ∙ lawful) cold)
    (is_same-flip x o))
