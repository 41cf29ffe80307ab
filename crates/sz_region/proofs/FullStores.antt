-- A store of full lineage: what its two parts say of it, and that its bytes are those of one list of region pairs.
use Rattle.std.proofs.Common.{◌≡◌, ℕ, zero, suc, ◌+◌, ◌^◌, ◌<◌, ◌≤◌, List, [], ◌∷◌, ◌++◌, length, map, drop, true, Some}
use Rattle.std.proofs.Common.{refl, sym, ap, ap₂, subst, ◌∙◌, arith, append_assoc, length-append, length-drop}
use Rattle.std.specs.List.{All, AllZip, flat_map, slice_get}
use Rattle.std.proofs.Math.Seq.{drop-drop, drop-append_seam}
use Rattle.std.proofs.lemmas.Option.{same_Some}
use Rattle.sz_cells.specs.Extent.{Extent, is_extent}
use Rattle.sz_cells.specs.Cells.{Cells}
use Rattle.sz_cells.specs.SetBytes.{four_bytes}
use Rattle.sz_frame.specs.Parts.{Pairing}
use Rattle.sz_region.specs.Counted.{counted, rows_bytes, IsAt}
use Rattle.sz_region.specs.FullBytes.{Listed, IsListed, listed_bytes, listed_from, listed_of, AreNumbersOf, AreNamesOf}
use Rattle.sz_region.specs.FullBytes.{IsFullWord, BeginsRegions}
use Rattle.sz_region.specs.LawsStores.{OneListOfRegionsBegins, WrittenRegionsAreRead}
use Rattle.sz_region.specs.Stores.{NoRegionsBegin, NoneAt, AreFew, ArePairNames, AreStoreNames}
use Rattle.sz_region.proofs.Numbering.{zip-length}
use Rattle.sz_region.proofs.Spans.{IsPrefixFree, counted-free, listed-free, at-both, no-first, first-read}
use Rattle.sz_region.proofs.Names.{rows-some, pair-names-free}

-- the two parts make a store
pub regions-begin : (out : Extent) (ins : List Extent) (bytes : List ℕ) (at place next : ℕ) (table : List Listed)
    (rows : List (List ℕ)) (regions : List Pairing) → AreFew (IsListed out ins) table
    → IsAt bytes at place (counted listed_bytes table) → AllZip (AreNamesOf table (length ins)) rows regions
    → length rows ≤ 2 ^ 30 → IsAt bytes place next (rows_bytes rows)
    → BeginsRegions out ins bytes at next regions
regions-begin out ins bytes at place next table rows regions listed first named few second = record {
  table = table;
  word = counted listed_bytes table ++ rows_bytes rows;
  rest = drop next bytes;
  is_word = record {
    each = listed.0;
    few_sets = listed.1;
    few = omega (arith, zip-length (AreNamesOf table (length ins)) rows regions named);
    names = rows;
    named = named;
    spelled = refl;
  };
  spelled = (at-both bytes at place next (counted listed_bytes table) (rows_bytes rows) first second).spelled;
  ends = refl;
}

-- what a store says of the bytes
store-spelled : (out : Extent) (ins : List Extent) (bytes : List ℕ) (at next : ℕ) (regions : List Pairing)
    → (begins : BeginsRegions out ins bytes at next regions)
    → drop at bytes ≡ counted listed_bytes begins.table ++ rows_bytes begins.is_word.names ++ begins.rest
store-spelled out ins bytes at next regions begins =
    begins.spelled ∙ ap (λ (xs : List ℕ). xs ++ begins.rest) begins.is_word.spelled

-- no table begins
pub no-regions-table : (out : Extent) (ins : List Extent) (bytes : List ℕ) (at : ℕ)
    → NoneAt (AreFew (IsListed out ins)) (counted listed_bytes) bytes at → NoRegionsBegin out ins bytes at
no-regions-table out ins bytes at none next regions begins =
    no-first (AreFew (IsListed out ins)) (counted listed_bytes) bytes at none begins.table
    (rows_bytes begins.is_word.names) begins.rest (begins.is_word.each, begins.is_word.few_sets)
    (store-spelled out ins bytes at next regions begins)

-- the names of a store
store-names : (out : Extent) (ins : List Extent) (bytes : List ℕ) (at next : ℕ) (regions : List Pairing)
    → (begins : BeginsRegions out ins bytes at next regions)
    → AreStoreNames begins.table (length ins) begins.is_word.names
store-names out ins bytes at next regions begins = (
  rows-some begins.table (length ins) begins.is_word.names regions begins.is_word.named,
  omega (
    arith,
    zip-length (AreNamesOf begins.table (length ins)) begins.is_word.names regions begins.is_word.named,
    begins.is_word.few,
  ),
)

-- a table begins, and no names behind it
pub no-regions-names : (out : Extent) (ins : List Extent) (bytes : List ℕ) (at place : ℕ) (table : List Listed)
    → All (λ e. is_extent e ≡ true) (out ∷ ins) → AreFew (IsListed out ins) table
    → IsAt bytes at place (counted listed_bytes table)
    → NoneAt (AreStoreNames table (length ins)) rows_bytes bytes place → NoRegionsBegin out ins bytes at
no-regions-names out ins bytes at place table right listed first none next regions begins =
    let names = begins.is_word.names in
    let read = first-read (AreFew (IsListed out ins)) (counted listed_bytes)
    (counted-free (IsListed out ins) listed_bytes (listed-free out ins right)) bytes at place table begins.table
    (rows_bytes names) begins.rest listed first (begins.is_word.each, begins.is_word.few_sets)
    (store-spelled out ins bytes at next regions begins) in
    none names begins.rest
    (subst (λ (t : List Listed). AreStoreNames t (length ins) names) (sym read.0)
    (store-names out ins bytes at next regions begins)) read.1

-- ---- the laws

-- numbers name one list of things
pub numbers-one : {X : Type 0} (table : List X) (ns : List ℕ) (xs ys : List X) → AreNumbersOf table ns xs
    → AreNumbersOf table ns ys → xs ≡ ys
numbers-one table [] [] [] one other = refl
numbers-one table [] [] (y ∷ ys) one other = elim other [ ]
numbers-one table [] (x ∷ xs) ys one other = elim one [ ]
numbers-one table (n ∷ ns) [] ys one other = elim one [ ]
numbers-one table (n ∷ ns) (x ∷ xs) [] one other = elim other [ ]
numbers-one {X} table (n ∷ ns) (x ∷ xs) (y ∷ ys) one other =
    ap₂ (λ (z : X) (zs : List X). z ∷ zs) (same_Some x y (sym one.0 ∙ other.0))
    (numbers-one table ns xs ys one.1 other.1)

-- the sets that are listed
sets-listed : (a : ℕ) (sets : List Cells) → map (λ l. l.set) (listed_from a sets) ≡ sets
sets-listed a [] = refl
sets-listed a (s ∷ sets) = ap (λ (xs : List Cells). s ∷ xs) (sets-listed (a + 1) sets)

-- and one region pair
pair-one : (table : List Listed) (inputs : ℕ) (ns : List ℕ) (p q : Pairing) → AreNamesOf table inputs ns p
    → AreNamesOf table inputs ns q → p ≡ q
pair-one table inputs ns p q one other =
    let listed = numbers-one table ns (listed_of p) (listed_of q) one.named other.named in
    let sets : p.out ∷ p.ins ≡ q.out ∷ q.ins = sym (sets-listed 0 (p.out ∷ p.ins)) ∙ ap (map (λ l. l.set)) listed
    ∙ sets-listed 0 (q.out ∷ q.ins) in
    let make : Cells → List Cells → Pairing = λ s ss. record { out = s; ins = ss } in
    let out : p.out ≡ q.out = cc in
    let ins : p.ins ≡ q.ins = cc in
    ap₂ make out ins

-- things that rows tell apart are one list
pub zip-one : {A B : Type 0} (R : A → B → Type 0) → ((a : A) (p q : B) → R a p → R a q → p ≡ q) → (xs : List A)
    (ps qs : List B) → AllZip R xs ps → AllZip R xs qs → ps ≡ qs
zip-one R same [] [] [] one other = refl
zip-one R same [] [] (q ∷ qs) one other = elim other [ ]
zip-one R same [] (p ∷ ps) qs one other = elim one [ ]
zip-one R same (x ∷ xs) [] qs one other = elim one [ ]
zip-one R same (x ∷ xs) (p ∷ ps) [] one other = elim other [ ]
zip-one {A} {B} R same (x ∷ xs) (p ∷ ps) (q ∷ qs) one other =
    ap₂ (λ (z : B) (zs : List B). z ∷ zs) (same x p q one.0 other.0) (zip-one R same xs ps qs one.1 other.1)

-- words that begin one list are one, of one list of region pairs
words-one : (out : Extent) (ins : List Extent) (t u : List Listed) (r s : List Pairing) (w v a b : List ℕ)
    → All (λ e. is_extent e ≡ true) (out ∷ ins) → IsFullWord out ins t r w → IsFullWord out ins u s v
    → w ++ a ≡ v ++ b → (r ≡ s) × (w ≡ v) × (a ≡ b)
words-one out ins t u r s w v a b right one other same =
    let inputs = length ins in
    let whole : counted listed_bytes t ++ (rows_bytes one.names ++ a)
    ≡ counted listed_bytes u ++ (rows_bytes other.names ++ b) =
    sym (append_assoc (counted listed_bytes t) (rows_bytes one.names) a)
    ∙ ap (λ (xs : List ℕ). xs ++ a) (sym one.spelled) ∙ same ∙ ap (λ (xs : List ℕ). xs ++ b) other.spelled
    ∙ append_assoc (counted listed_bytes u) (rows_bytes other.names) b in
    let tables = counted-free (IsListed out ins) listed_bytes (listed-free out ins right) t u
    (rows_bytes one.names ++ a) (rows_bytes other.names ++ b) (one.each, one.few_sets) (other.each, other.few_sets)
    whole in
    let moved : AllZip (AreNamesOf t inputs) other.names s =
    subst (λ (x : List Listed). AllZip (AreNamesOf x inputs) other.names s) (sym tables.0) other.named in
    let names = counted-free (ArePairNames t inputs) (flat_map four_bytes) (pair-names-free t inputs one.few_sets)
    one.names other.names a b (
      rows-some t inputs one.names r one.named,
      omega (
        arith,
        zip-length (AreNamesOf t inputs) one.names r one.named,
        one.few,
      ),
    ) (
      rows-some t inputs other.names s moved,
      omega (
        arith,
        zip-length (AreNamesOf t inputs) other.names s moved,
        other.few,
      ),
    ) tables.1 in (
      zip-one (AreNamesOf t inputs) (pair-one t inputs) one.names r s one.named
          (subst (λ (ns : List (List ℕ)). AllZip (AreNamesOf t inputs) ns s) (sym names.0) moved),
      one.spelled ∙ ap₂ (λ (x : List Listed) (ns : List (List ℕ)). counted listed_bytes x ++ rows_bytes ns) tables.0
          names.0 ∙ sym other.spelled,
      names.1,
    )

-- what is left behind two places within the bytes tells them apart
pub ends-one : (bytes : List ℕ) (next other : ℕ) (a b : List ℕ) → next ≤ length bytes → other ≤ length bytes
    → drop next bytes ≡ a → drop other bytes ≡ b → a ≡ b → next ≡ other
ends-one bytes next other a b inside there first second same =
    omega (
      arith,
      ap length (first ∙ same ∙ sym second),
      length-drop next bytes,
      length-drop other bytes,
    )

pub regions-one : OneListOfRegionsBegins
regions-one out ins bytes at next other a b right first second inside there =
    let one = words-one out ins first.table second.table a b first.word second.word first.rest second.rest right
    first.is_word second.is_word (sym first.spelled ∙ second.spelled) in
    (one.0, ends-one bytes next other first.rest second.rest inside there first.ends second.ends one.2)

-- what stands behind what was written
pub behind-word : (before word rest : List ℕ)
    → drop (length before + length word) (before ++ (word ++ rest)) ≡ rest
behind-word before word rest =
    sym (drop-drop (length word) (length before) (before ++ (word ++ rest)))
    ∙ ap (drop (length word)) (drop-append_seam before (word ++ rest)) ∙ drop-append_seam word rest

pub regions-read : WrittenRegionsAreRead
regions-read out ins table regions before word rest right is =
    let begins : BeginsRegions out ins (before ++ (word ++ rest)) (length before) (length before + length word) regions
    =
    record {
      table = table;
      word = word;
      rest = rest;
      is_word = is;
      spelled = drop-append_seam before (word ++ rest);
      ends = behind-word before word rest;
    } in (
      begins,
      λ other next second inside.
          let one = regions-one out ins (before ++ (word ++ rest)) (length before) (length before + length word) next
          regions other right begins second
          (omega (arith, length-append before (word ++ rest), length-append word rest)) inside in
          (sym one.0, sym one.1),
    )
