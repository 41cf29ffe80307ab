-- Payloads are short: none of them has more bytes than the largest set.
use Rattle.std.proofs.Common.{◌≡◌, ℕ, ◌<◌, ◌≤◌, true, false, true≢false, List, [], ◌∷◌, length, get_or}
use Rattle.std.proofs.Common.{sym, ap, subst, arith}
use Rattle.std.specs.Prelude.{All, Ok}
use Rattle.sz_cells.specs.Extent.{Extent, size_of}
use Rattle.sz_cells.specs.Runs.{runs_of}
use Rattle.sz_cells.specs.SetWords.{is_set_word, set_spelled}
use Rattle.sz_cells.proofs.Runs.{runs_of-longest, runs-length}
use Rattle.sz_spec.specs.declared.op.Op.{Op}
use Rattle.sz_spec.specs.declared.op.Op.TheVariants.{Lookup, Regions, Clean}
use Rattle.sz_spec.specs.Payloads.{is_payload, is_none_or, is_column, is_flag}
use Rattle.sz_spec.specs.Modes.{has_mapping}
use Rattle.sz_spec.specs.Shapes.{Site, shape_of}
use Rattle.sz_spec.specs.Values.{extent_at}
use Rattle.sz_region.specs.PayBytes.{IsShort}
use Rattle.sz_frame.specs.Parts.{Entry}
use Rattle.sz_region.specs.Taking.{runs_bytes}
use Rattle.sz_region.proofs.Spelling.{runs-long}
use Rattle.sz_payload.specs.Kept.{IsEntryOf}
use Rattle.sz_payload.proofs.Operators.{own-shape}
use Rattle.sz_payload.proofs.SetWords.{word-set}

column-short : (e : Extent) (p : List ℕ) → is_none_or (is_column e) p ≡ true → IsShort p
column-short e [] passes = omega arith
column-short e (a ∷ []) passes = omega arith
column-short e (a ∷ b ∷ []) passes = omega arith
column-short e (a ∷ b ∷ c ∷ []) passes = omega arith
column-short e (a ∷ b ∷ c ∷ d ∷ []) passes = omega arith
column-short e (a ∷ b ∷ c ∷ d ∷ f ∷ p) passes = absurd (true≢false (sym passes))

flag-short : (p : List ℕ) → is_flag p ≡ true → IsShort p
flag-short [] passes = omega arith
flag-short (b ∷ []) passes = omega arith
flag-short (a ∷ b ∷ p) passes = absurd (true≢false (sym passes))

set-short : (e : Extent) (p : List ℕ) → size_of e ≤ 1048576 → is_none_or (is_set_word e) p ≡ true → IsShort p
set-short e [] few passes = omega arith
set-short e (b ∷ p) few passes =
    let bytes = b ∷ p in
    let is = word-set e bytes passes in
    let runs = runs_of (set_spelled e bytes).indexes in
    let count = runs-length (size_of e) runs (runs_of-longest 0 (size_of e) (set_spelled e bytes).indexes is.rising) in
    let long : length (runs_bytes runs) < 4294967296 = omega (arith, runs-long runs) in
    subst (λ (xs : List ℕ). length xs < 4294967296) is.spelled long

short-of : (op : Op) (ins : List Extent) (p : List ℕ) → size_of (extent_at ins 0) ≤ 1048576
    → is_payload op ins p ≡ true → IsShort p
short-of Lookup ins p few lawful = column-short (extent_at ins 1) p lawful
short-of (Regions t) ins p few lawful = set-short (extent_at ins 0) p few lawful
short-of (Clean t) ins p few lawful = flag-short p lawful
short-of _ ins p few lawful = absurd (true≢false (sym lawful))

-- the first input of a site of payloads has the shape of the output, so it is small where that is
pub first-small : (s t : Site) (shape : Extent) (size : ℕ) → has_mapping t.op ≡ false → s ≡ t
    → shape_of s.op s.ins ≡ Ok s.out → shape ≡ s.out → size ≡ size_of shape → size ≤ 1048576
    → size_of (extent_at s.ins 0) ≤ 1048576
first-small s t shape size none same rule is count few =
    let own : has_mapping s.op ≡ false = subst (λ (u : Site). has_mapping u.op ≡ false) (sym same) none in
    omega (arith, few, count, ap size_of is, ap size_of (own-shape s.op s.ins s.out own rule))

pub payloads-short : (s : Site) (ps : List (List ℕ)) → size_of (extent_at s.ins 0) ≤ 1048576
    → All (λ p. is_payload s.op s.ins p ≡ true) ps → All IsShort ps
payloads-short s ps few all = λ k d inside. short-of s.op s.ins (get_or ps k d) few (all k d inside)

pub entries-short : (s : Site) (es : List Entry) → size_of (extent_at s.ins 0) ≤ 1048576 → All (IsEntryOf s) es
    → All (λ e. IsShort e.payload) es
entries-short s es few all = λ k d inside.
    short-of s.op s.ins (get_or es k d).payload few (all k d inside).payload
