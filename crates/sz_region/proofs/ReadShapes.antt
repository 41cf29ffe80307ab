-- Region pairs that some bytes spell have the shapes for which they are read; they, and entries that are read, can be
-- written.
--
-- The key idea: a region pair names its sets in the order of the arrays, and a set of a table is one of the shape of
-- its array.
use Rattle.std.proofs.Common.{◌≡◌, ℕ, zero, suc, ◌+◌, ◌*◌, ◌^◌, ◌<◌, ◌≤◌, List, [], ◌∷◌, length, map, take, drop}
use Rattle.std.proofs.Common.{get_or, All, refl, ap, ap₂, subst, ◌∙◌, arith, sym, drop-cons, Some}
use Rattle.std.specs.List.{slice_get, AllZip}
use Rattle.std.proofs.Math.Nat.{mul-le-mul_right}
use Rattle.std.proofs.lemmas.List.{take_all}
use Rattle.std.proofs.lemmas.List.Elements.{All-nil, All-cons}
use Rattle.std.proofs.lemmas.Option.{slice_get_within, get_or_from_slice_get, unwrap_or-slice_get}
use Rattle.sz_cells.specs.Extent.{Extent}
use Rattle.sz_cells.specs.Cells.{Cells}
use Rattle.sz_spec.specs.Values.{no_extent}
use Rattle.sz_cells.specs.SetBytes.{IsSetOf}
use Rattle.sz_frame.specs.Parts.{Pairing, Entry}
use Rattle.sz_region.specs.FullBytes.{Listed, IsListed, listed_from, AreNumbersOf, AreNamesOf, BeginsRegions}
use Rattle.sz_region.specs.PayBytes.{IsShort, AreNamesOfEntry, BeginsEntries}
use Rattle.sz_region.specs.Putting.{HasShapes, CanPutRegions, CanPutEntries}

-- what is read from a table of such sets is one
listed-at : (out : Extent) (ins : List Extent) (table : List Listed) (n : ℕ) (l : Listed)
    → All (IsListed out ins) table → slice_get table n ≡ Some l → IsListed out ins l
listed-at out ins table n l all is =
    subst (IsListed out ins) (get_or_from_slice_get table n l l is) (all n l (slice_get_within table n l is))

-- the sets of arrays one after another have their shapes
named-shapes : (out : Extent) (ins : List Extent) (table : List Listed) (ns : List ℕ) (a : ℕ) (sets : List Cells)
    → All (IsListed out ins) table → AreNumbersOf table ns (listed_from a sets)
    → map (λ s. s.extent) sets ≡ take (length sets) (drop a (out ∷ ins))
named-shapes out ins table ns a [] all named = refl
named-shapes out ins table [] a (s ∷ sets) all named = absurd named
named-shapes out ins table (n ∷ ns) a (s ∷ sets) all named =
    let l : Listed = record { array = a; set = s } in
    let own = listed-at out ins table n l all named.0 in
    let inside : a < length (out ∷ ins) = omega (arith, own.array) in
    let next : suc a ≡ a + 1 = omega arith in
    let here : s.extent ≡ get_or (out ∷ ins) a no_extent =
    own.set.extent ∙ unwrap_or-slice_get (out ∷ ins) a no_extent in
    let rest : map (λ x. x.extent) sets ≡ take (length sets) (drop (suc a) (out ∷ ins)) =
    named-shapes out ins table ns (a + 1) sets all named.1
    ∙ ap (λ (n : ℕ). take (length sets) (drop n (out ∷ ins))) (sym next) in
    rw (drop-cons (out ∷ ins) a no_extent inside) (ap₂ (λ (e : Extent) (es : List Extent). e ∷ es) here rest)

-- so a region pair that is named has these shapes
pair-named : (out : Extent) (ins : List Extent) (table : List Listed) (ns : List ℕ) (r : Pairing)
    → All (IsListed out ins) table → AreNamesOf table (length ins) ns r → HasShapes out ins r
pair-named out ins table ns r all names =
    let whole = names.whole in
    let many : length (out ∷ ins) ≤ length (r.out ∷ r.ins) = omega arith in
    let shapes = named-shapes out ins table ns 0 (r.out ∷ r.ins) all names.named in
    let same : r.out.extent ∷ map (λ x. x.extent) r.ins ≡ out ∷ ins =
    shapes ∙ take_all (length (r.out ∷ r.ins)) (out ∷ ins) many in
    record { out = cc; ins = cc }

pairs-named : (out : Extent) (ins : List Extent) (table : List Listed) (names : List (List ℕ)) (rs : List Pairing)
    → All (IsListed out ins) table → AllZip (AreNamesOf table (length ins)) names rs → All (HasShapes out ins) rs
pairs-named out ins table [] [] all named = All-nil (HasShapes out ins)
pairs-named out ins table [] (r ∷ rs) all named = absurd named
pairs-named out ins table (ns ∷ names) [] all named = absurd named
pairs-named out ins table (ns ∷ names) (r ∷ rs) all named =
    All-cons (HasShapes out ins) r rs (pair-named out ins table ns r all named.0)
    (pairs-named out ins table names rs all named.1)

-- so have those that begin at a place of some bytes
pub read-shapes : (out : Extent) (ins : List Extent) (bytes : List ℕ) (at next : ℕ) (rs : List Pairing)
    → BeginsRegions out ins bytes at next rs → All (HasShapes out ins) rs
read-shapes out ins bytes at next rs begins =
    pairs-named out ins begins.table begins.is_word.names rs begins.is_word.each begins.is_word.named

-- so they can be written
pub can-put-read : (out : Extent) (ins : List Extent) (bytes : List ℕ) (at next : ℕ) (rs : List Pairing)
    → length ins ≤ 2 → BeginsRegions out ins bytes at next rs → CanPutRegions out ins rs
can-put-read out ins bytes at next rs two begins =
    let few = begins.is_word.few in
    let wide : length rs * (1 + length ins) ≤ 2 ^ 30 * (1 + length ins) = mul-le-mul_right (1 + length ins) few in
    record {
      each = read-shapes out ins bytes at next rs begins;
      inputs = omega arith;
      few = few;
      sets = omega arith;
    }

-- ---- entries

-- what is read from a table of things that are so, is so
named-so : {X : Type 0} (P : X → Type 0) (table : List X) (n : ℕ) (x : X) → All P table
    → slice_get table n ≡ Some x → P x
named-so P table n x all is =
    subst P (get_or_from_slice_get table n x x is) (all n x (slice_get_within table n x is))

entries-named : (out : Extent) (sets : List Cells) (payloads : List (List ℕ)) (names : List (List ℕ)) (es : List Entry)
    → All (IsSetOf out) sets → All IsShort payloads → AllZip (AreNamesOfEntry sets payloads) names es
    → All (λ (e : Entry). (e.out.extent ≡ out) × IsShort e.payload) es
entries-named out sets payloads [] [] right short named =
    All-nil (λ (e : Entry). (e.out.extent ≡ out) × IsShort e.payload)
entries-named out sets payloads [] (e ∷ es) right short named = absurd named
entries-named out sets payloads (ns ∷ names) [] right short named = absurd named
entries-named out sets payloads ((a ∷ b ∷ []) ∷ names) (e ∷ es) right short named =
    let set : IsSetOf out e.out = named-so (IsSetOf out) sets a e.out right named.0.0 in
    All-cons (λ (e : Entry). (e.out.extent ≡ out) × IsShort e.payload) e es
    (set.extent, named-so IsShort payloads b e.payload short named.0.1)
    (entries-named out sets payloads names es right short named.1)
entries-named out sets payloads ([] ∷ names) (e ∷ es) right short named = absurd named.0
entries-named out sets payloads ((a ∷ []) ∷ names) (e ∷ es) right short named = absurd named.0
entries-named out sets payloads ((a ∷ b ∷ c ∷ ns) ∷ names) (e ∷ es) right short named = absurd named.0

pub can-put-entries : (out : Extent) (bytes : List ℕ) (at next : ℕ) (es : List Entry)
    → BeginsEntries out bytes at next es → CanPutEntries out es
can-put-entries out bytes at next es begins =
    let w = begins.is_word in
    let all = entries-named out begins.sets begins.payloads w.names es w.each w.short w.named in
    record {
      each = λ n d below. (all n d below).0;
      short = λ n d below. (all n d below).1;
      few = w.few;
      apart = w.apart;
    }
