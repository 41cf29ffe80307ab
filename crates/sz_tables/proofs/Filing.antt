-- Entries that are filed: of what a list is cut into, under the rests of what each is mixed to; and of indexes one
-- after another, with so much less room.
use Rattle.std.proofs.Common.{◌≡◌, ℕ, zero, suc, ◌+◌, ◌-◌, ◌%◌, ◌<◌, ◌≤◌, List, [], ◌∷◌, ◌++◌, length, map, get_or}
use Rattle.std.proofs.Common.{take, refl, sym, ap, ap₂, ◌∙◌, arith, inl, inr, append-nil, append_assoc, length-append}
use Rattle.std.specs.List.{HoldsAt, range_with_len, flat_map}
use Rattle.std.proofs.lemmas.List.{map-append, length-map, get_or-map, take_more}
use Rattle.std.proofs.lemmas.List.Concat.{flat_map-append}
use Rattle.std.proofs.lemmas.Simd.{map-map}
use Rattle.sz_cells.specs.declared.Run.{Run}
use Rattle.sz_cells.specs.Runs.{indexes_of}
use Rattle.sz_tables.specs.Filed.{Filed, Files, HasRoom, IsWidened, rest_under}

-- ---- pieces, each under the rest of what it is mixed to

-- the entry of a piece, under so many keys
abbrev mixed_under : {X : Type 0} → (X → ℕ) → ℕ → X → Filed
mixed_under {X} mix keys x = record { key = mix x % keys; item = mix x }

-- one piece more
pub filed-push : {X : Type 0} (mix : X → ℕ) (index after : Files) (pieces : List X) (more : X) (key m : ℕ)
    → index.entries ≡ map (mixed_under mix index.keys) pieces → m ≡ mix more → key ≡ m % index.keys
    → after.keys ≡ index.keys → after.entries ≡ index.entries ++ record { key = key; item = m } ∷ []
    → after.entries ≡ map (mixed_under mix after.keys) (pieces ++ more ∷ [])
filed-push mix index after pieces more key m was mixed under keys entries =
    rw (entries, keys, map-append (mixed_under mix index.keys) pieces (more ∷ []), was, under, mixed) refl

-- the key and the item of a piece
pub filed-key : {X : Type 0} (mix : X → ℕ) (index : Files) (pieces : List X) (n : ℕ) (none more : X) (key : ℕ)
    → index.entries ≡ map (mixed_under mix index.keys) pieces → n < length pieces → get_or pieces n none ≡ more
    → key ≡ mix more % index.keys → HoldsAt (λ f. f.key ≡ key) index.entries n × (n < length index.entries)
filed-key {X} mix index pieces n none more key was many piece under = (
  λ d. ap (λ (es : List Filed). (get_or es n d).key) was
      ∙ ap (λ (f : Filed). f.key) (get_or-map (mixed_under mix index.keys) pieces n none d many)
      ∙ ap (λ (x : X). mix x % index.keys) piece
      ∙ sym under,
  omega (arith, many, ap length was, length-map pieces (mixed_under mix index.keys)),
)

-- pieces stay filed where the entries are filed anew
pub widened-keys : (index after : Files) → 0 < index.keys → IsWidened index after → 0 < after.keys
widened-keys index after was wide =
    elim wide [
      | inl same ↦ omega (arith, same.0, was)
      | inr anew ↦ anew.0
    ]

pub widened-filed : {X : Type 0} (mix : X → ℕ) (index after : Files) (pieces : List X)
    → index.entries ≡ map (mixed_under mix index.keys) pieces → IsWidened index after
    → after.entries ≡ map (mixed_under mix after.keys) pieces
widened-filed mix index after pieces was wide =
    elim wide [
      | inl same ↦ rw (same.0, same.1) was
      | inr anew ↦
          anew.1
          ∙ ap (map (rest_under after.keys)) was
          ∙ map-map (rest_under after.keys) (mixed_under mix index.keys) pieces
    ]

-- room in the list of spans stays where the list gets more, and so does room for their entries and what they cut
pub room-kept : {Cut X : Type 0} (spans after : List X) (spare capacity more entries grown : ℕ) → after ≡ spans
    → HasRoom (length spans) spare capacity → capacity ≤ more → spare ≤ entries → entries ≤ grown → Cut
    → HasRoom (length after) spare more × (spare ≤ grown) × Cut
room-kept spans after spare capacity more entries grown same was wider some onward cut = (
  rw same (record { few = was.few; room = omega (arith, was.room, wider) }),
  omega (arith, some, onward),
  cut,
)

-- ---- indexes, one entry each

-- the files with an entry for each of some indexes, and so much less room
abbrev pub with_each : (ℕ → ℕ → Filed) → Files → List ℕ → Files
with_each entry f ks = record f { entries = f.entries ++ map (entry f.keys) ks; spare = f.spare - length ks }

abbrev made : Files → List Filed → ℕ → Files
made f es room = record f { entries = es; spare = room }

-- no index more changes nothing
pub each-none : (entry : ℕ → ℕ → Filed) (f : Files) → f ≡ with_each entry f []
each-none entry f =
    let same : f.spare ≡ f.spare - 0 = omega arith in
    ap₂ (made f) (sym (append-nil f.entries)) same

-- indexes behind indexes
pub each-append : (entry : ℕ → ℕ → Filed) (f : Files) (ks more : List ℕ)
    → with_each entry (with_each entry f ks) more ≡ with_each entry f (ks ++ more)
each-append entry f ks more =
    let room : f.spare - length ks - length more ≡ f.spare - length (ks ++ more) =
    omega (arith, length-append ks more) in
    ap₂ (made f)
    (append_assoc f.entries (map (entry f.keys) ks) (map (entry f.keys) more)
    ∙ ap (λ (es : List Filed). f.entries ++ es) (sym (map-append (entry f.keys) ks more)))
    room

-- a range with one number more
range-more : (a n j : ℕ) → a + n ≡ j → range_with_len a (n + 1) ≡ range_with_len a n ++ j ∷ []
range-more a zero j at = let same : a ≡ j = omega arith in ap (λ (k : ℕ). k ∷ []) same
range-more a (suc n) j at =
    let more : suc n + 1 ≡ suc (n + 1) = omega arith in
    rw more (ap (λ (ks : List ℕ). a ∷ ks) (range-more (a + 1) n j (omega arith)))

-- one index more
pub each-next : (entry : ℕ → ℕ → Filed) (f so_far new : Files) (a n k : ℕ)
    → so_far ≡ with_each entry f (range_with_len a n) → new ≡ with_each entry so_far (k ∷ []) → a + n ≡ k
    → new ≡ with_each entry f (range_with_len a (n + 1))
each-next entry f so_far new a n k before more at =
    more
    ∙ ap (λ (g : Files). with_each entry g (k ∷ [])) before
    ∙ each-append entry f (range_with_len a n) (k ∷ [])
    ∙ ap (with_each entry f) (sym (range-more a n k at))

-- room is left while fewer indexes are filed than there was room for
pub each-room : (entry : ℕ → ℕ → Filed) (f so_far : Files) (ks : List ℕ) (n : ℕ) → so_far ≡ with_each entry f ks
    → length ks + n ≤ f.spare → n ≤ so_far.spare
each-room entry f so_far ks n before room = let spare = ap (λ (g : Files). g.spare) before in omega arith

-- one run more
pub each-run : (entry : ℕ → ℕ → Filed) (f so_far new : Files) (runs : List Run) (i : ℕ) (d : Run) → i < length runs
    → so_far ≡ with_each entry f (flat_map indexes_of (take i runs))
    → new ≡ with_each entry so_far (indexes_of (get_or runs i d))
    → new ≡ with_each entry f (flat_map indexes_of (take (i + 1) runs))
each-run entry f so_far new runs i d inside before more =
    let here = indexes_of (get_or runs i d) in
    let all : flat_map indexes_of (take (i + 1) runs) ≡ flat_map indexes_of (take i runs) ++ here =
    rw (take_more runs i d inside, flat_map-append indexes_of (take i runs) (get_or runs i d ∷ []))
    (ap (λ (ks : List ℕ). flat_map indexes_of (take i runs) ++ ks) (append-nil here)) in
    more
    ∙ ap (λ (g : Files). with_each entry g here) before
    ∙ each-append entry f (flat_map indexes_of (take i runs)) here
    ∙ ap (with_each entry f) (sym all)
