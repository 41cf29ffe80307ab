-- The key idea: the sets of the arrays stand one array after the other, so the number that a set has among those of
-- its array, behind the start of the array, is its place in the list.
use Rattle.std.proofs.Common.{◌≡◌, ℕ, zero, suc, ◌+◌, ◌-◌, ◌*◌, ◌<◌, ◌≤◌, List, [], ◌∷◌, ◌++◌, Some, map}
use Rattle.std.proofs.Common.{length, get_or, take, refl, sym, ap, ◌∙◌, arith, inl, inr, length-append, All}
use Rattle.std.specs.List.{slice_get, zip, range_with_len, flat_map}
use Rattle.std.proofs.lemmas.Bool.{cases_lt}
use Rattle.std.proofs.lemmas.Option.{slice_get-get_or, slice_get-map, same_Some, none-some, unwrap_or-slice_get}
use Rattle.std.proofs.lemmas.List.{append_assoc, length-map, append-nil, map-id, map_more, take_more, get_or-map}
use Rattle.std.proofs.lemmas.List.{length-take-le}
use Rattle.std.proofs.lemmas.List.Concat.{flat_map-append}
use Rattle.std.proofs.lemmas.List.FromFn.{map-range_with_len_more}
use Rattle.std.proofs.lemmas.Slice.Zip.{length-zip, get_or-zip}
use Rattle.std.proofs.lemmas.List.Elements.{All-append, All-map, All-nil, All-weaker}
use Rattle.sz_spec.proofs.FlowOutputs.{slice_get-left}
use Rattle.sz_spec.specs.Values.{no_extent, extent_at}
use Rattle.sz_cells.specs.Extent.{Extent}
use Rattle.sz_cells.specs.Cells.{Cells, no_cells}
use Rattle.sz_cells.specs.SetBytes.{IsSetOf}
use Rattle.sz_region.specs.FullBytes.{Listed, IsListed, listed_from, AreNumbersOf}
use Rattle.sz_tables.specs.Tables.{SetsByNumber, AreDifferent}
use Rattle.sz_tables.specs.Rows.{set_at, sets_of}
use Rattle.sz_tables.specs.Listing.{listed_as, listed_sets, starts_from, shifted}

-- ---- places in two lists

-- an element of the second of two lists
slice_get-right : {X : Type 0} (xs ys : List X) (n : ℕ) → slice_get (xs ++ ys) (length xs + n) ≡ slice_get ys n
slice_get-right [] ys n = let same : 0 + n ≡ n = omega arith in rw same refl
slice_get-right (x ∷ xs) ys n =
    let same : suc (length xs) + n ≡ suc (length xs + n) = omega arith in
    rw same (slice_get-right xs ys n)

slice_get-behind : {X : Type 0} (xs ys : List X) (n : ℕ) → length xs ≤ n
    → slice_get (xs ++ ys) n ≡ slice_get ys (n - length xs)
slice_get-behind xs ys n past =
    let same : n ≡ length xs + (n - length xs) = omega arith in
    ap (λ (m : ℕ). slice_get (xs ++ ys) m) same ∙ slice_get-right xs ys (n - length xs)

-- two lists with nothing in common
different-append : {X : Type 0} (xs ys : List X) → AreDifferent xs → AreDifferent ys
    → ((m n : ℕ) (x : X) → slice_get xs m ≡ Some x → slice_get ys n ≡ Some x → ⊥) → AreDifferent (xs ++ ys)
different-append xs ys first second apart m n x here there =
    elim (cases_lt m (length xs)) [
      | inl m-in ↦
          let left : slice_get xs m ≡ Some x = sym (slice_get-left xs ys m m-in) ∙ here in
          elim (cases_lt n (length xs)) [
            | inl n-in ↦ first m n x left (sym (slice_get-left xs ys n n-in) ∙ there)
            | inr n-past ↦ absurd (apart m (n - length xs) x left (sym (slice_get-behind xs ys n n-past) ∙ there))
          ]
      | inr m-past ↦
          let right : slice_get ys (m - length xs) ≡ Some x = sym (slice_get-behind xs ys m m-past) ∙ here in
          elim (cases_lt n (length xs)) [
            | inl n-in ↦ absurd (apart n (m - length xs) x (sym (slice_get-left xs ys n n-in) ∙ there) right)
            | inr n-past ↦
                let same = second (m - length xs) (n - length xs) x right
                (sym (slice_get-behind xs ys n n-past) ∙ there) in
                omega arith
          ]
    ]

-- ---- the sets of one array

as-set : (array : ℕ) (sets : List Cells) (n : ℕ) (x : Listed) → slice_get (listed_as array sets) n ≡ Some x
    → (x.array ≡ array) × (slice_get sets n ≡ Some x.set)
as-set array [] n x here = (cc)
as-set array (s ∷ sets) zero x here =
    let made : Listed = record { array = array; set = s } in
    let same = same_Some made x here in
    (sym (ap (λ (l : Listed). l.array) same), ap (λ (l : Listed). Some l.set) same)
as-set array (s ∷ sets) (suc n) x here = as-set array sets n x here

as-different : (array : ℕ) (sets : List Cells) → AreDifferent sets → AreDifferent (listed_as array sets)
as-different array sets different m n x here there =
    different m n x.set (as-set array sets m x here).1 (as-set array sets n x there).1

-- ---- the sets of all arrays

-- none is of an array before the first
from-array : (array : ℕ) (ss : List (List Cells)) (n : ℕ) (x : Listed) → slice_get (listed_sets array ss) n ≡ Some x
    → array ≤ x.array
from-array array [] n x here = (cc)
from-array array (s ∷ ss) n x here =
    elim (cases_lt n (length (listed_as array s))) [
      | inl inside ↦
          let left = sym (slice_get-left (listed_as array s) (listed_sets (array + 1) ss) n inside) ∙ here in
          omega (arith, (as-set array s n x left).0)
      | inr past ↦
          let right = sym (slice_get-behind (listed_as array s) (listed_sets (array + 1) ss) n past) ∙ here in
          omega (arith, from-array (array + 1) ss (n - length (listed_as array s)) x right)
    ]

-- no set of one array stands twice
pub listed-different : (array : ℕ) (ss : List (List Cells))
    → ((i : ℕ) → i < length ss → AreDifferent (sets_of ss i)) → AreDifferent (listed_sets array ss)
listed-different array [] different = λ m n x here there. absurd (none-some x here)
listed-different array (s ∷ ss) different =
    different-append (listed_as array s) (listed_sets (array + 1) ss)
    (as-different array s (different 0 (omega arith)))
    (listed-different (array + 1) ss (λ i h. different (suc i) (omega arith)))
    (λ m n x here there. let one = as-set array s m x here in
    let other = from-array (array + 1) ss n x there in
    omega (arith, one.0))

-- each is a set of its array's shape
pub listed-right : (out : Extent) (ins : List Extent) (array : ℕ) (ss : List (List Cells))
    → array + length ss ≤ length ins + 1
    → ((i : ℕ) → i < length ss → All (IsSetOf (extent_at (out ∷ ins) (array + i))) (sets_of ss i))
    → All (IsListed out ins) (listed_sets array ss)
listed-right out ins array [] within each = All-nil (IsListed out ins)
listed-right out ins array (s ∷ ss) within each =
    let first : array + 0 ≡ array = omega arith in
    let own : All (IsSetOf (extent_at (out ∷ ins) array)) s = rw first at (each 0 (omega arith)) in
    let make : Cells → Listed = λ x. record { array = array; set = x } in
    All-append (IsListed out ins) (listed_as array s) (listed_sets (array + 1) ss)
    (All-map (IsListed out ins) make s
    (All-weaker (IsSetOf (extent_at (out ∷ ins) array)) (λ (x : Cells). IsListed out ins (make x))
    (λ x is. record { array = omega arith; set = is }) s own))
    (listed-right out ins (array + 1) ss (omega arith)
    (λ i h. let next : array + suc i ≡ array + 1 + i = omega arith in
    rw next at (each (suc i) (omega arith))))

-- a number behind the start of its array is the place of its set
pub listed-named : (front : List Listed) (array : ℕ) (ss : List (List Cells)) (ns : List ℕ) → length ns ≡ length ss
    → ((i : ℕ) → i < length ss → get_or ns i 0 < length (sets_of ss i))
    → AreNumbersOf (front ++ listed_sets array ss) (shifted (starts_from (length front) ss) ns)
    (listed_from array (map (λ (p : List Cells × ℕ). set_at p.0 p.1) (zip ss ns)))
listed-named front array [] [] long inside = tt
listed-named front array [] (n ∷ ns) long inside = absurd (omega arith)
listed-named front array (s ∷ ss) [] long inside = absurd (omega arith)
listed-named front array (s ∷ ss) (n ∷ ns) long inside =
    let set : Cells = get_or s n (no_cells no_extent) in
    let make : Cells → Listed = λ x. record { array = array; set = x } in
    let rest = listed_sets (array + 1) ss in
    let below : n < length s = inside 0 (omega arith) in
    let known : slice_get s n ≡ Some set = slice_get-get_or s n (no_cells no_extent) below in
    let is : set_at s n ≡ set = rw known refl in
    let own : slice_get (listed_as array s) n ≡ Some (make set) = slice_get-map make s n ∙ (rw known refl) in
    let here : slice_get (front ++ (listed_as array s ++ rest)) (length front + n) ≡ Some (make (set_at s n)) =
    rw is (slice_get-right front (listed_as array s ++ rest) n
    ∙ (slice_get-left (listed_as array s) rest n (omega (arith, length-map s make)) ∙ own)) in
    let longer : length (front ++ listed_as array s) ≡ length front + length s =
    length-append front (listed_as array s) ∙ (omega (arith, length-map s make)) in
    let others = listed-named (front ++ listed_as array s) (array + 1) ss ns (omega arith)
    (λ i h. inside (suc i) (omega arith)) in
    (here, rw (longer, append_assoc front (listed_as array s) rest) at others)

-- ---- one array more

pub listed-push : (array : ℕ) (ss : List (List Cells)) (s : List Cells)
    → listed_sets array (ss ++ s ∷ []) ≡ listed_sets array ss ++ listed_as (array + length ss) s
listed-push array [] s =
    let same : array ≡ array + 0 = omega arith in
    append-nil (listed_as array s) ∙ ap (λ (n : ℕ). listed_as n s) same
listed-push array (x ∷ ss) s =
    let next : array + 1 + length ss ≡ array + suc (length ss) = omega arith in
    rw (listed-push (array + 1) ss s, next)
    (sym (append_assoc (listed_as array x) (listed_sets (array + 1) ss) (listed_as (array + suc (length ss)) s)))

pub starts-push : (place array : ℕ) (ss : List (List Cells)) (s : List Cells)
    → starts_from place (ss ++ s ∷ []) ≡ starts_from place ss ++ (place + length (listed_sets array ss)) ∷ []
starts-push place array [] s =
    let same : place ≡ place + 0 = omega arith in
    ap (λ (n : ℕ). n ∷ []) same
starts-push place array (x ∷ ss) s =
    let make : Cells → Listed = λ c. record { array = array; set = c } in
    let next : place + length x + length (listed_sets (array + 1) ss)
    ≡ place + length (listed_as array x ++ listed_sets (array + 1) ss) =
    omega (arith, length-append (listed_as array x) (listed_sets (array + 1) ss), length-map x make) in
    ap (λ (ns : List ℕ). place ∷ ns) (starts-push (place + length x) (array + 1) ss s
    ∙ ap (λ (n : ℕ). starts_from (place + length x) ss ++ n ∷ []) next)

pub length-starts : (place : ℕ) (ss : List (List Cells)) → length (starts_from place ss) ≡ length ss
length-starts place [] = refl
length-starts place (s ∷ ss) = ap suc (length-starts (place + length s) ss)

-- how many there are at most
pub listed-few : (array most : ℕ) (ss : List (List Cells)) → All (λ (s : List Cells). length s ≤ most) ss
    → length (listed_sets array ss) ≤ length ss * most
listed-few array most [] few = omega arith
listed-few array most (s ∷ ss) few =
    let make : Cells → Listed = λ c. record { array = array; set = c } in
    let first : length s ≤ most = few 0 s (omega arith) in
    let others = listed-few (array + 1) most ss (λ k d h. few (suc k) d (omega arith)) in
    omega (arith, length-append (listed_as array s) (listed_sets (array + 1) ss), length-map s make)

-- ---- one step more of what is appended

pub length-shifted : (starts ns : List ℕ) → length ns ≡ length starts → length (shifted starts ns) ≡ length ns
length-shifted starts ns long =
    length-map (zip starts ns) (λ (p : ℕ × ℕ). p.0 + p.1) ∙ (length-zip starts ns ∙ (omega arith))

pub shifted-at : (starts ns : List ℕ) (i : ℕ) → length ns ≡ length starts → i < length ns
    → get_or (shifted starts ns) i 0 ≡ get_or starts i 0 + get_or ns i 0
shifted-at starts ns i long inside =
    let sum = λ (p : ℕ × ℕ). p.0 + p.1 in
    get_or-map sum (zip starts ns) i (0, 0) 0 (omega (arith, length-zip starts ns))
    ∙ ap sum (get_or-zip starts ns i (0, 0) (omega arith) inside)

pub shifted-more : (starts ns : List ℕ) (i : ℕ) → length ns ≡ length starts → i < length ns
    → take (i + 1) (shifted starts ns) ≡ take i (shifted starts ns) ++ (get_or starts i 0 + get_or ns i 0) ∷ []
shifted-more starts ns i long inside =
    take_more (shifted starts ns) i 0 (omega (arith, length-shifted starts ns long))
    ∙ ap (λ (n : ℕ). take i (shifted starts ns) ++ n ∷ []) (shifted-at starts ns i long inside)

pub flat-more : {A : Type 0} (f : ℕ → List A) (n : ℕ)
    → flat_map f (range_with_len 0 (n + 1)) ≡ flat_map f (range_with_len 0 n) ++ f n
flat-more f n =
    let same = λ (k : ℕ). k in
    let more : range_with_len 0 (n + 1) ≡ range_with_len 0 n ++ n ∷ [] =
    sym (map-id (range_with_len 0 (n + 1))) ∙ (map-range_with_len_more same 0 n n (omega arith)
    ∙ ap (λ (ns : List ℕ). ns ++ n ∷ []) (map-id (range_with_len 0 n))) in
    ap (λ (ns : List ℕ). flat_map f ns) more
    ∙ (flat_map-append f (range_with_len 0 n) (n ∷ [])
    ∙ ap (λ (xs : List _). flat_map f (range_with_len 0 n) ++ xs) (append-nil (f n)))

pub as-more : (array : ℕ) (sets : List Cells) (i : ℕ) → i < length sets
    → listed_as array (take (i + 1) sets)
    ≡ listed_as array (take i sets) ++ record { array = array; set = set_at sets i } ∷ []
as-more array sets i inside =
    let make : Cells → Listed = λ s. record { array = array; set = s } in
    map_more make sets i (no_cells no_extent) inside
    ∙ ap (λ (s : Cells). listed_as array (take i sets) ++ make s ∷ [])
    (sym (unwrap_or-slice_get sets i (no_cells no_extent)))

-- the tables before a place, and one more
pub tables-more : (ts : List SetsByNumber) (i : ℕ) (t : SetsByNumber) → i < length ts → t ≡ get_or ts i t
    → map (λ (t : SetsByNumber). t.sets) (take (i + 1) ts)
    ≡ map (λ (t : SetsByNumber). t.sets) (take i ts) ++ t.sets ∷ []
tables-more ts i t inside is =
    map_more (λ (t : SetsByNumber). t.sets) ts i t inside
    ∙ ap (λ (t' : SetsByNumber). map (λ (t : SetsByNumber). t.sets) (take i ts) ++ t'.sets ∷ []) (sym is)

pub tables-long : (ts : List SetsByNumber) (i : ℕ) → i ≤ length ts
    → length (map (λ (t : SetsByNumber). t.sets) (take i ts)) ≡ i
tables-long ts i within = length-map (take i ts) (λ (t : SetsByNumber). t.sets) ∙ length-take-le i ts within
