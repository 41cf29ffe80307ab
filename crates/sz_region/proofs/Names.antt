-- Numbers that name sets of a table: reading them.
--
-- The key idea: a number that names a set is one of four bytes, since the table is no longer, so rows of names of one
-- width do not begin one another.
use Rattle.std.proofs.Common.{◌≡◌, ℕ, zero, suc, ◌+◌, ◌^◌, ◌<◌, ◌≤◌, List, [], ◌∷◌, ◌++◌, length, drop, map, Some}
use Rattle.std.proofs.Common.{refl, sym, ap, ap₂, subst, ◌∙◌, arith, append_assoc, length-append}
use Rattle.std.specs.List.{All, AllZip, flat_map, slice_get}
use Rattle.std.proofs.lemmas.List.Elements.{All-nil, All-cons, All-head, All-tail, All-append, All-push}
use Rattle.std.proofs.lemmas.Option.{slice_get_within, same_Some}
use Rattle.sz_cells.specs.Cells.{Cells}
use Rattle.sz_cells.specs.SetBytes.{four_bytes}
use Rattle.sz_frame.specs.Parts.{Pairing}
use Rattle.sz_region.specs.Counted.{counted, rows_bytes, IsAt}
use Rattle.sz_region.specs.FullBytes.{Listed, listed_from, listed_of, AreNumbersOf, AreNamesOf}
use Rattle.sz_region.specs.Stores.{NoneAt, IsNameFor, AreNamesFor, ArePairNames, AreStoreNames}
use Rattle.sz_region.proofs.Numbering.{zip-length, listed-length}
use Rattle.sz_region.proofs.Spans.{IsPrefixFree, IsSmall, number-free, number-read, goes-on, same-things, no-list}
use Rattle.sz_region.proofs.Spans.{no-number}

-- ---- one name

-- there are no four bytes
pub no-name-short : (table : List Listed) (array : ℕ) (bytes : List ℕ) (at : ℕ) → length bytes < at + 4
    → NoneAt (IsNameFor table array) four_bytes bytes at
no-name-short table array bytes at short n rest is spelled = no-number bytes at n rest short spelled

-- the number is past the table
pub no-name-past : (table : List Listed) (array name : ℕ) (bytes : List ℕ) (at : ℕ)
    → IsAt bytes at (at + 4) (four_bytes name) → IsSmall name → length table < 2 ^ 32 → length table ≤ name
    → NoneAt (IsNameFor table array) four_bytes bytes at
no-name-past table array name bytes at read small few past n rest is spelled =
    let inside = slice_get_within table n (record { array = array; set = is.0 }) is.1 in
    let same = number-read bytes at name n rest read small (omega arith) spelled in
    omega (arith, same.0)

-- the set is one of another array
pub no-name-other : (table : List Listed) (array name : ℕ) (l : Listed) (bytes : List ℕ) (at : ℕ)
    → IsAt bytes at (at + 4) (four_bytes name) → IsSmall name → length table < 2 ^ 32
    → slice_get table name ≡ Some l → (l.array ≡ array → ⊥) → NoneAt (IsNameFor table array) four_bytes bytes at
no-name-other table array name l bytes at read small few here other n rest is spelled =
    let set : Listed = record { array = array; set = is.0 } in
    let inside = slice_get_within table n set is.1 in
    let same = number-read bytes at name n rest read small (omega arith) spelled in
    let one : l ≡ set = same_Some l set (sym here ∙ ap (slice_get table) same.0 ∙ is.1) in
    other (ap (λ (x : Listed). x.array) one)

-- ---- names one after another

-- each is a number of four bytes
pub names-small : {X : Type 0} (table : List X) (ns : List ℕ) (xs : List X) → length table < 2 ^ 32
    → AreNumbersOf table ns xs → All IsSmall ns
names-small table [] [] few are = All-nil IsSmall
names-small table [] (x ∷ xs) few are = elim are [ ]
names-small table (n ∷ ns) [] few are = elim are [ ]
names-small table (n ∷ ns) (x ∷ xs) few are =
    let inside = slice_get_within table n x are.0 in
    All-cons IsSmall n ns (omega arith) (names-small table ns xs few are.1)

-- a name behind others is one for the array behind theirs
name-behind : (table : List Listed) (a : ℕ) (ns : List ℕ) (z : ℕ) (zs : List ℕ) (sets : List Cells)
    → AreNumbersOf table (ns ++ z ∷ zs) (listed_from a sets) → IsNameFor table (a + length ns) z
name-behind table a [] z zs [] are = elim are [ ]
name-behind table a [] z zs (s ∷ sets) are =
    let at : a ≡ a + 0 = omega arith in
    (s, are.0 ∙ ap (λ (k : ℕ). Some (record { array = k; set = s })) at)
name-behind table a (n ∷ ns) z zs [] are = elim are [ ]
name-behind table a (n ∷ ns) z zs (s ∷ sets) are =
    let at : a + 1 + length ns ≡ a + suc (length ns) = omega arith in
    subst (λ (k : ℕ). IsNameFor table k z) at (name-behind table (a + 1) ns z zs sets are.1)

-- where the next name is not there, no names of so many sets are
pub no-names : (table : List Listed) (a count : ℕ) (bytes : List ℕ) (at place : ℕ) (ns : List ℕ) (sets : List Cells)
    → length table < 2 ^ 32 → AreNumbersOf table ns (listed_from a sets) → length sets < count
    → IsAt bytes at place (flat_map four_bytes ns) → NoneAt (IsNameFor table (a + length sets)) four_bytes bytes place
    → NoneAt (AreNamesFor table a count) (flat_map four_bytes) bytes at
no-names table a count bytes at place ns sets few are short read none ms rest names spelled =
    let long = zip-length (λ (n : ℕ) (l : Listed). slice_get table n ≡ Some l) ns (listed_from a sets) are
    ∙ listed-length a sets in
    let wide = zip-length (λ (n : ℕ) (l : Listed). slice_get table n ≡ Some l) ms (listed_from a names.0) names.2
    ∙ listed-length a names.0 ∙ names.1 in
    let on = goes-on IsSmall four_bytes number-free ns ms (drop place bytes) rest
    (names-small table ns (listed_from a sets) few are) (names-small table ms (listed_from a names.0) few names.2)
    (omega arith) (sym read.spelled ∙ spelled) in
    let next : (zs : List ℕ) → ms ≡ ns ++ zs → drop place bytes ≡ flat_map four_bytes zs ++ rest → ⊥ = elim [
      | [] ↦ λ same there. omega (arith, ap length same, length-append ns [])
      | z ∷ zs ↦ λ same there.
          none z (flat_map four_bytes zs ++ rest)
          (subst (λ (k : ℕ). IsNameFor table (a + k) z) long (name-behind table a ns z zs names.0
          (subst (λ (xs : List ℕ). AreNumbersOf table xs (listed_from a names.0)) same names.2)))
          (there ∙ append_assoc (four_bytes z) (flat_map four_bytes zs) rest)
    ] in
    next on.0 on.1 on.3

-- ---- the names of region pairs

-- names that are as many do not begin one another
pub pair-names-free : (table : List Listed) (inputs : ℕ) → length table < 2 ^ 32
    → IsPrefixFree (ArePairNames table inputs) (flat_map four_bytes)
pair-names-free table inputs few ns ms a b first second same =
    let wide : (xs : List ℕ) → ArePairNames table inputs xs → length xs ≡ suc inputs = λ xs is.
    zip-length (λ (n : ℕ) (l : Listed). slice_get table n ≡ Some l) xs (listed_of is.0) is.1.named
    ∙ listed-length 0 (is.0.out ∷ is.0.ins) ∙ ap suc is.1.whole in
    same-things IsSmall four_bytes number-free ns ms a b (names-small table ns (listed_of first.0) few first.1.named)
    (names-small table ms (listed_of second.0) few second.1.named) (wide ns first ∙ sym (wide ms second)) same

-- no output set is named
pub no-pair-out : (table : List Listed) (inputs : ℕ) (bytes : List ℕ) (at : ℕ)
    → NoneAt (IsNameFor table 0) four_bytes bytes at
    → NoneAt (ArePairNames table inputs) (flat_map four_bytes) bytes at
no-pair-out table inputs bytes at none [] rest is spelled = elim is.1.named [ ]
no-pair-out table inputs bytes at none (n ∷ ns) rest is spelled =
    none n (flat_map four_bytes ns ++ rest) (is.0.out, is.1.named.0)
    (spelled ∙ append_assoc (four_bytes n) (flat_map four_bytes ns) rest)

-- an output set is named, but no sets of the inputs
pub no-pair-ins : (table : List Listed) (inputs name : ℕ) (out : Cells) (bytes : List ℕ) (at : ℕ)
    → length table < 2 ^ 32 → IsAt bytes at (at + 4) (four_bytes name)
    → slice_get table name ≡ Some (record { array = 0; set = out })
    → NoneAt (AreNamesFor table 1 inputs) (flat_map four_bytes) bytes (at + 4)
    → NoneAt (ArePairNames table inputs) (flat_map four_bytes) bytes at
no-pair-ins table inputs name out bytes at few read here none [] rest is spelled = elim is.1.named [ ]
no-pair-ins table inputs name out bytes at few read here none (n ∷ ns) rest is spelled =
    let inside = slice_get_within table name (record { array = 0; set = out }) here in
    let there = slice_get_within table n (record { array = 0; set = is.0.out }) is.1.named.0 in
    let same = number-read bytes at name n (flat_map four_bytes ns ++ rest) read (omega arith) (omega arith)
    (spelled ∙ append_assoc (four_bytes n) (flat_map four_bytes ns) rest) in
    none ns rest (is.0.ins, is.1.whole, is.1.named.1) same.1

-- the rows of region pairs name some
pub zip-some : {A B : Type 0} (R : A → B → Type 0) (xs : List A) (ys : List B) → AllZip R xs ys
    → All (λ a. (b : B) × R a b) xs
zip-some {A} {B} R [] [] all = All-nil (λ a. (b : B) × R a b)
zip-some R [] (y ∷ ys) all = elim all [ ]
zip-some R (x ∷ xs) [] all = elim all [ ]
zip-some {A} {B} R (x ∷ xs) (y ∷ ys) all =
    All-cons (λ a. (b : B) × R a b) x xs (y, all.0) (zip-some R xs ys all.1)

pub rows-some : (table : List Listed) (inputs : ℕ) (rows : List (List ℕ)) (regions : List Pairing)
    → AllZip (AreNamesOf table inputs) rows regions → All (ArePairNames table inputs) rows
rows-some table inputs rows regions all = zip-some (AreNamesOf table inputs) rows regions all

-- where the next row is not there, no rows of as many region pairs as are said
pub no-rows : (table : List Listed) (inputs : ℕ) (bytes : List ℕ) (at count place : ℕ) (rows : List (List ℕ))
    (regions : List Pairing) → length table < 2 ^ 32 → IsAt bytes at (at + 4) (four_bytes count) → IsSmall count
    → AllZip (AreNamesOf table inputs) rows regions → length regions < count
    → IsAt bytes (at + 4) place (flat_map (flat_map four_bytes) rows)
    → NoneAt (ArePairNames table inputs) (flat_map four_bytes) bytes place
    → NoneAt (AreStoreNames table inputs) rows_bytes bytes at
no-rows table inputs bytes at count place rows regions few number small named short read none all rest is spelled =
    let count_is = number-read bytes at count (length all) (flat_map (flat_map four_bytes) all ++ rest) number small
    (omega (arith, is.1)) spelled in
    let long = zip-length (AreNamesOf table inputs) rows regions named in
    no-list (ArePairNames table inputs) (flat_map four_bytes) (pair-names-free table inputs few) bytes (at + 4) place
    rows all rest (rows-some table inputs rows regions named) read none is.0 (omega (arith, count_is.0)) count_is.1

-- there are more than a store may have
pub no-rows-many : (table : List Listed) (inputs : ℕ) (bytes : List ℕ) (at count : ℕ)
    → IsAt bytes at (at + 4) (four_bytes count) → IsSmall count → 2 ^ 30 < count
    → NoneAt (AreStoreNames table inputs) rows_bytes bytes at
no-rows-many table inputs bytes at count number small many all rest is spelled =
    let count_is = number-read bytes at count (length all) (flat_map (flat_map four_bytes) all ++ rest) number small
    (omega (arith, is.1)) spelled in
    omega (arith, count_is.0, is.1)
