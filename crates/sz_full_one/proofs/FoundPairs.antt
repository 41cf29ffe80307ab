-- What the entries of a cell lead to is what the region pairs stand for.
--
-- The key idea: sets are filed one after another, so what the entries of a cell find among them is what a look through
-- the sets finds; and a look through the sets, and for each through the rows that have it, is a look through the rows.
use Rattle.std.proofs.Common.{inl, inr, true≢false, ◌≡◌, ℕ, zero, suc, ◌+◌, ◌-◌, ◌<◌, ◌≤◌, ◌==◌}
use Rattle.std.proofs.Common.{Bool, true, false, ◌&&◌, ◌||◌, List, [], ◌∷◌, ◌++◌, map, Some, None, Option}
use Rattle.std.proofs.Common.{length, get_or, refl, sym, ap, ap₂, subst, ◌∙◌, arith, eq-eqb, ne_eqb}
use Rattle.std.proofs.lemmas.List.{length-map}
use Rattle.std.specs.Prelude.{unwrap_or, slice_index}
use Rattle.std.specs.List.{All, list_any, range_with_len, slice_get, zip, HoldsAt}
use Rattle.std.proofs.lemmas.Bool.{cases_Bool, cases_eq}
use Rattle.std.proofs.lemmas.List.Elements.{All-nil, All-head, All-tail, All-append}
use Rattle.std.proofs.lemmas.List.Folds.{list_any-append}
use Rattle.std.proofs.lemmas.Option.{unwrap_or-slice_get}
use Rattle.sz_cells.specs.declared.Cell.{Cell}
use Rattle.sz_cells.specs.Extent.{Extent, size_of, holds, index_of, cell_of}
use Rattle.sz_cells.specs.Cells.{Cells, has, no_cells}
use Rattle.sz_cells.proofs.Sets.{has-index, any-filter_range_at}
use Rattle.sz_spec.specs.declared.modes.Dir.TheVariants.{Back, Forward}
use Rattle.sz_spec.specs.Values.{extent_at, no_extent}
use Rattle.sz_frame.specs.Parts.{Pairing}
use Rattle.sz_frame.specs.Stands.{set_of, full_stands}
use Rattle.sz_frame.specs.Walks.{steps}
use Rattle.sz_full_one.specs.declared.index.SetFiles.{SetFiles}
use Rattle.sz_tables.specs.Filed.{Filed, Files}
use Rattle.sz_tables.specs.Rows.{Row, RowTable, IsRowOf, row_at, number_in, set_at, sets_of, pairing_of, pairings}
use Rattle.sz_full_one.specs.ByCells.{under, by_cells, by_numbers, adds, AreFiledByOuts, AreFiledByIns}
use Rattle.sz_frame.proofs.Added.{any-filter}
use Rattle.sz_tables.proofs.MetRuns.{any-or, any-ext}
use Rattle.sz_full_one.proofs.Entries.{found}

-- ---- a test of places and elements

-- some element of a list passes, told its place, which is counted from n
abbrev pub any_at : {X : Type 0} → (ℕ → X → Bool) → ℕ → List X → Bool
any_at test n [] = false
any_at test n (x ∷ xs) = test n x || any_at test (n + 1) xs

-- the same after a map
any_at-map : {X Y : Type 0} (f : X → Y) (test : ℕ → Y → Bool) (n : ℕ) (xs : List X)
    → any_at test n (map f xs) ≡ any_at (λ k x. test k (f x)) n xs
any_at-map f test n [] = refl
any_at-map f test n (x ∷ xs) = ap (λ b. test n (f x) || b) (any_at-map f test (n + 1) xs)

-- where the place tells no more than the element
any_at-elements : {X : Type 0} (test : ℕ → X → Bool) (own : X → Bool) (n : ℕ) (xs : List X)
    → ((k : ℕ) (d : X) → k < length xs → test (n + k) (get_or xs k d) ≡ own (get_or xs k d))
    → any_at test n xs ≡ list_any own xs
any_at-elements test own n [] same = refl
any_at-elements test own n (x ∷ xs) same =
    let first : n + 0 ≡ n = omega arith in
    ap₂ (λ (a b : Bool). a || b) (ap (λ (k : ℕ). test k x) (sym first) ∙ same 0 x (omega arith))
    (any_at-elements test own (n + 1) xs
    (λ k d inside.
    let next : n + 1 + k ≡ n + suc k = omega arith in
    ap (λ (m : ℕ). test m (get_or xs k d)) next ∙ same (suc k) d (omega arith)))

-- where the element tells no more than the place
any_at-places : {X : Type 0} (test : ℕ → X → Bool) (own : ℕ → Bool) (n : ℕ) (xs : List X)
    → ((k : ℕ) (d : X) → k < length xs → test (n + k) (get_or xs k d) ≡ own (n + k))
    → any_at test n xs ≡ list_any own (range_with_len n (length xs))
any_at-places test own n [] same = refl
any_at-places test own n (x ∷ xs) same =
    let first : n + 0 ≡ n = omega arith in
    ap₂ (λ (a b : Bool). a || b)
    (ap (λ (k : ℕ). test k x) (sym first) ∙ same 0 x (omega arith) ∙ ap own first)
    (any_at-places test own (n + 1) xs
    (λ k d inside.
    let next : n + 1 + k ≡ n + suc k = omega arith in
    ap (λ (m : ℕ). test m (get_or xs k d)) next ∙ same (suc k) d (omega arith) ∙ ap own (sym next)))

-- ---- what is found among entries

-- one item under some keys
found-under : (key : ℕ) (test : ℕ → Cell → Bool) (keys : List ℕ) (item : ℕ) (x : Cell)
    → found key test (under keys item) x ≡ (list_any (λ k. k == key) keys && test item x)
found-under key test [] item x = refl
found-under key test (k ∷ keys) item x =
    ap (λ b. ((k == key) && test item x) || b) (found-under key test keys item x)
    ∙ (elim (cases_Bool (k == key)) [
      | inl t ↦ rw t (elim (cases_Bool (test item x)) [
        | inl u ↦ rw u refl
        | inr v ↦
            rw v (elim (cases_Bool (list_any (λ j. j == key) keys)) [ inl a ↦ rw a refl | inr b ↦ rw b refl ])
      ])
      | inr f ↦ rw f refl
    ])

-- sets under their cells
found-cells : (key : ℕ) (test : ℕ → Cell → Bool) (n : ℕ) (sets : List Cells) (x : Cell)
    → found key test (by_cells n sets) x ≡ any_at (λ k s. list_any (λ i. i == key) s.indexes && test k x) n sets
found-cells key test n [] x = refl
found-cells key test n (s ∷ sets) x =
    list_any-append (λ (e : Filed). (e.key == key) && test e.item x) (under s.indexes n) (by_cells (n + 1) sets)
    ∙ ap₂ (λ (a b : Bool). a || b) (found-under key test s.indexes n x) (found-cells key test (n + 1) sets x)

-- places under the numbers that stand there
found-numbers : (key : ℕ) (test : ℕ → Cell → Bool) (n : ℕ) (numbers : List ℕ) (x : Cell)
    → found key test (by_numbers n numbers) x ≡ any_at (λ k m. (m == key) && test k x) n numbers
found-numbers key test n [] x = refl
found-numbers key test n (m ∷ numbers) x = ap (λ b. ((m == key) && test n x) || b)
    (found-numbers key test (n + 1) numbers x)

-- ---- entries lead to places of the list

All-under : (P : Filed → Type 0) (keys : List ℕ) (item : ℕ) → ((k : ℕ) → P (record { key = k; item = item }))
    → All P (under keys item)
All-under P [] item each i d inside = absurd (omega arith)
All-under P (k ∷ keys) item each zero d inside = each k
All-under P (k ∷ keys) item each (suc i) d inside = All-under P keys item each i d (omega arith)

items-cells : (n bound : ℕ) (sets : List Cells) → n + length sets ≤ bound
    → All (λ e. e.item < bound) (by_cells n sets)
items-cells n bound [] few = All-nil (λ e. e.item < bound)
items-cells n bound (s ∷ sets) few =
    All-append (λ e. e.item < bound) (under s.indexes n) (by_cells (n + 1) sets)
    (All-under (λ e. e.item < bound) s.indexes n (λ k. omega arith))
    (items-cells (n + 1) bound sets (omega arith))

items-numbers : (n bound : ℕ) (numbers : List ℕ) → n + length numbers ≤ bound
    → All (λ e. e.item < bound) (by_numbers n numbers)
items-numbers n bound [] few i d inside = absurd (omega arith)
items-numbers n bound (m ∷ numbers) few zero d inside = omega arith
items-numbers n bound (m ∷ numbers) few (suc i) d inside = items-numbers (n + 1) bound numbers (omega arith) i d
    (omega arith)

-- the item of an entry of a list
item-below : (entries all : List Filed) (bound i item : ℕ) → entries ≡ all → All (λ e. e.item < bound) all
    → i < length entries → HoldsAt (λ e. e.item ≡ item) entries i → item < bound
item-below entries all bound i item same each inside is =
    let none : Filed = record { key = 0; item = 0 } in
    let there = subst (λ (es : List Filed). All (λ e. e.item < bound) es) (sym same) each in
    omega (arith, is none, there i none inside)

pub row-of_cell : (t : RowTable) (f : Files) (i item : ℕ) → AreFiledByOuts t f → i < length f.entries
    → HoldsAt (λ e. e.item ≡ item) f.entries i → item < length t.rows
row-of_cell t f i item filed inside is =
    item-below f.entries (by_cells 0 (map (λ r. r.out) (pairings t))) (length t.rows) i item filed.entries
    (items-cells 0 (length t.rows) (map (λ r. r.out) (pairings t)) (omega (
      arith,
      length-map (pairings t) (λ (r : Pairing). r.out),
      length-map t.rows (pairing_of t.outs t.sets),
    ))) inside is

pub set-of_cell : (t : RowTable) (n : ℕ) (f : SetFiles) (i item : ℕ) → AreFiledByIns t n f
    → i < length f.cells.entries → HoldsAt (λ e. e.item ≡ item) f.cells.entries i
    → item < length (sets_of t.sets n)
set-of_cell t n f i item filed inside is =
    item-below f.cells.entries (by_cells 0 (sets_of t.sets n)) (length (sets_of t.sets n)) i item filed.sets.entries
    (items-cells 0 (length (sets_of t.sets n)) (sets_of t.sets n) (omega arith)) inside is

pub row-of_set : (t : RowTable) (n : ℕ) (f : SetFiles) (i item : ℕ) → AreFiledByIns t n f
    → i < length f.rows.entries → HoldsAt (λ e. e.item ≡ item) f.rows.entries i → item < length t.rows
row-of_set t n f i item filed inside is =
    item-below f.rows.entries (by_numbers 0 (map (λ r. number_in r n) t.rows)) (length t.rows) i item filed.rows
    (items-numbers 0 (length t.rows) (map (λ r. number_in r n) t.rows) (omega (
      arith,
      length-map t.rows (λ (r : Row). number_in r n),
    ))) inside is

-- ---- rows and their sets

-- the row of a place
row-here : (rows : List Row) (n : ℕ) (d : Row) → n < length rows → row_at rows n ≡ get_or rows n d
row-here [] n d inside = absurd (omega arith)
row-here (r ∷ rows) zero d inside = refl
row-here (r ∷ rows) (suc n) d inside = row-here rows n d (omega arith)

set-here : (sets : List Cells) (n : ℕ) (d : Cells) → n < length sets → set_at sets n ≡ get_or sets n d
set-here [] n d inside = absurd (omega arith)
set-here (s ∷ sets) zero d inside = refl
set-here (s ∷ sets) (suc n) d inside = set-here sets n d (omega arith)

-- the number of a row's set of an input is one of them
pub named-in : (t : RowTable) (n i : ℕ) → All (IsRowOf t) t.rows → n < length t.rows → i < length t.ins
    → number_in (row_at t.rows n) i < length (sets_of t.sets i)
named-in t n i named inside input =
    let none : Row = record { out = 0; ins = [] } in
    rw (row-here t.rows n none inside) ((named n none inside).ins i input)

pub named-out : (t : RowTable) (n : ℕ) → All (IsRowOf t) t.rows → n < length t.rows
    → (row_at t.rows n).out < length t.outs
named-out t n named inside =
    let none : Row = record { out = 0; ins = [] } in
    rw (row-here t.rows n none inside) (named n none inside).out

-- an input of which there is a set is one of the inputs
some-sets : (sets : List (List Cells)) (i n : ℕ) → n < length (sets_of sets i) → i < length sets
some-sets [] i n some = absurd (omega arith)
some-sets (s ∷ sets) zero n some = omega arith
some-sets (s ∷ sets) (suc i) n some = let rest = some-sets sets i n some in omega arith

-- the set of a row's region pair for an input is the one that the row names
zipped-set : (sets : List (List Cells)) (ins : List ℕ) (i : ℕ) → i < length sets → i < length ins
    → unwrap_or (slice_get (map (λ p. set_at p.0 p.1) (zip sets ins)) i) (no_cells no_extent)
    ≡ set_at (sets_of sets i) (slice_index ins i)
zipped-set [] ins i inside few = absurd (omega arith)
zipped-set (s ∷ sets) [] i inside few = absurd (omega arith)
zipped-set (s ∷ sets) (n ∷ ins) zero inside few = refl
zipped-set (s ∷ sets) (n ∷ ins) (suc i) inside few = zipped-set sets ins i (omega arith) (omega arith)

pub set-named : (t : RowTable) (row : Row) (i : ℕ) → IsRowOf t row → i < length t.ins
    → set_of (pairing_of t.outs t.sets row) i ≡ set_at (sets_of t.sets i) (number_in row i)
set-named t row i is input =
    zipped-set t.sets row.ins i (some-sets t.sets i (number_in row i) (is.ins i input)) (omega (arith, is.arity))

-- ---- looks through lists

any-map : {X Y : Type 0} (f : X → Y) (test : Y → Bool) (xs : List X) → list_any test (map f xs)
    ≡ list_any (λ x. test (f x)) xs
any-map f test [] = refl
any-map f test (x ∷ xs) = ap (λ b. test (f x) || b) (any-map f test xs)

any-All : {X : Type 0} (P : X → Type 0) (p q : X → Bool) (xs : List X) → All P xs → ((x : X) → P x → p x ≡ q x)
    → list_any p xs ≡ list_any q xs
any-All P p q [] all same = refl
any-All P p q (x ∷ xs) all same = ap₂ (λ (a b : Bool). a || b) (same x (All-head P x xs all))
    (any-All P p q xs (All-tail P x xs all) same)

any-none : {X : Type 0} (p : X → Bool) (xs : List X) → ((x : X) → p x ≡ false) → list_any p xs ≡ false
any-none p [] none = refl
any-none p (x ∷ xs) none = rw (none x) (any-none p xs none)

pub of-map : {X Y : Type 0} (P : Y → Type 0) (f : X → Y) (xs : List X) → All P (map f xs) → (k : ℕ) (d : X)
    → k < length xs → P (f (get_or xs k d))
of-map P f [] all k d inside = absurd (omega arith)
of-map P f (x ∷ xs) all zero d inside = All-head P (f x) (map f xs) all
of-map P f (x ∷ xs) all (suc k) d inside = of-map P f xs (All-tail P (f x) (map f xs) all) k d (omega arith)

eq-flip : (m k : ℕ) → (m == k) ≡ (k == m)
eq-flip m k =
    elim (cases_eq m k) [
      | inl same ↦ rw (eq-eqb m k same, eq-eqb k m (sym same)) refl
      | inr other ↦ rw (ne_eqb m k other, ne_eqb k m (λ same. other (sym same))) refl
    ]

-- tests joined, in another order
regroup : (a b c : Bool) → (a && (b && c)) ≡ ((a && c) && b)
regroup true true true = refl
regroup true true false = refl
regroup true false true = refl
regroup true false false = refl
regroup false b c = refl

and-or : (a b c : Bool) → (a && (b || c)) ≡ ((a && b) || (a && c))
and-or true b c = refl
and-or false b c = refl

and-swap : (a b : Bool) → (a && b) ≡ (b && a)
and-swap true true = refl
and-swap true false = refl
and-swap false true = refl
and-swap false false = refl

-- one number of a range
any-at_number : (a : ℕ → Bool) (b : Bool) (m n : ℕ) → m < n
    → list_any (λ k. a k && ((m == k) && b)) (range_with_len 0 n) ≡ (b && a m)
any-at_number a b m n inside =
    any-ext (λ k. a k && ((m == k) && b)) (λ k. (a k && b) && (k == m))
    (λ k. ap (λ c. a k && (c && b)) (eq-flip m k) ∙ regroup (a k) (k == m) b) (range_with_len 0 n)
    ∙ sym (any-filter (λ k. a k && b) (λ k. k == m) (range_with_len 0 n))
    ∙ any-filter_range_at (λ k. a k && b) m n inside
    ∙ and-swap (a m) b

-- a look through the numbers, and for each through the elements that have it, is one through the elements
through-numbers : {X : Type 0} (a : ℕ → Bool) (number : X → ℕ) (b : X → Bool) (n : ℕ) (xs : List X)
    → All (λ x. number x < n) xs
    → list_any (λ k. a k && list_any (λ x. (number x == k) && b x) xs) (range_with_len 0 n)
    ≡ list_any (λ x. b x && a (number x)) xs
through-numbers a number b n [] below = any-none (λ k. a k && false) (range_with_len 0 n) (λ k. and-swap (a k) false)
through-numbers a number b n (x ∷ xs) below =
    let here : ℕ → Bool = λ k. a k && ((number x == k) && b x) in
    let rest : ℕ → Bool = λ k. a k && list_any (λ y. (number y == k) && b y) xs in
    any-ext (λ k. a k && list_any (λ y. (number y == k) && b y) (x ∷ xs)) (λ k. here k || rest k)
    (λ k. and-or (a k) ((number x == k) && b x) (list_any (λ y. (number y == k) && b y) xs)) (range_with_len 0 n)
    ∙ any-or here rest (range_with_len 0 n)
    ∙ ap₂ (λ (c d : Bool). c || d)
    (any-at_number a (b x) (number x) n (All-head (λ y. number y < n) x xs below))
    (through-numbers a number b n xs (All-tail (λ y. number y < n) x xs below))

-- ---- what a walk along the entries of a cell finds

-- backward: the rows that have the output cell, and their sets of an input
pub back-found : (t : RowTable) (f : Files) (i cell : ℕ) (x : Cell) → AreFiledByOuts t f → All (IsRowOf t) t.rows
    → i < length t.ins → cell < size_of t.out
    → found cell (λ n y. adds t Back i (number_in (row_at t.rows n) i) y) f.entries x
    ≡ full_stands (pairings t) i (cell_of t.out cell) x
back-found t f i cell x filed named input inside =
    let c : Cell = cell_of t.out cell in
    let test : ℕ → Cell → Bool = λ n y. adds t Back i (number_in (row_at t.rows n) i) y in
    let at : Cells → Bool = λ s. list_any (λ j. j == cell) s.indexes in
    ap (λ (es : List Filed). found cell test es x) filed.entries
    ∙ found-cells cell test 0 (map (λ r. r.out) (pairings t)) x
    ∙ any_at-map (λ (r : Pairing). r.out) (λ k s. at s && test k x) 0 (pairings t)
    ∙ any_at-map (pairing_of t.outs t.sets) (λ k r. at r.out && test k x) 0 t.rows
    ∙ any_at-elements (λ k row. at (set_at t.outs row.out) && test k x)
    (λ row. has (set_at t.outs row.out) c && has (set_of (pairing_of t.outs t.sets row) i) x) 0 t.rows
    (λ k d below.
    let row : Row = get_or t.rows k d in
    let first : 0 + k ≡ k = omega arith in
    let shape =
    of-map (λ (r : Pairing). r.out.extent ≡ t.out) (pairing_of t.outs t.sets) t.rows filed.shapes k d below in
    let is : IsRowOf t row = named k d below in
    ap₂ (λ (a b : Bool). a && b)
    (sym (has-index (set_at t.outs row.out) t.out cell shape inside))
    (ap (λ (n : ℕ). test n x) first
    ∙ ap (λ (r : Row). has (set_at (sets_of t.sets i) (number_in r i)) x) (row-here t.rows k d below)
    ∙ ap (λ (s : Cells). has s x) (sym (set-named t row i is input))))
    ∙ sym (any-map (pairing_of t.outs t.sets) (λ r. has r.out c && has (set_of r i) x) t.rows)

-- forward: the sets that have the cell, and of each the rows
pub forward-found : (t : RowTable) (f : SetFiles) (i cell : ℕ) (x : Cell) → AreFiledByIns t i f
    → All (IsRowOf t) t.rows → i < length t.ins → cell < size_of (extent_at t.ins i)
    → found cell (adds t Forward i) f.cells.entries x
    ≡ steps Forward (full_stands (pairings t) i) (cell_of (extent_at t.ins i) cell) x
forward-found t f i cell x filed named input inside =
    let e : Extent = extent_at t.ins i in
    let c : Cell = cell_of e cell in
    let sets : List Cells = sets_of t.sets i in
    let at : Cells → Bool = λ s. list_any (λ j. j == cell) s.indexes in
    let out : Row → Bool = λ r. has (set_at t.outs r.out) x in
    ap (λ (es : List Filed). found cell (adds t Forward i) es x) filed.sets.entries
    ∙ found-cells cell (adds t Forward i) 0 sets x
    ∙ any_at-places (λ k s. at s && adds t Forward i k x) (λ k. has (set_at sets k) c && adds t Forward i k x) 0 sets
    (λ k d below.
    let first : 0 + k ≡ k = omega arith in
    let here = set-here sets k d below in
    ap₂ (λ (a b : Bool). a && b)
    (sym (has-index (get_or sets k d) e cell (filed.sets.shapes k d below) inside)
    ∙ ap (λ (s : Cells). has s c) (sym here)
    ∙ ap (λ (n : ℕ). has (set_at sets n) c) (sym first))
    refl)
    ∙ through-numbers (λ k. has (set_at sets k) c) (λ r. number_in r i) out (length sets) t.rows
    (λ k d below. (named k d below).ins i input)
    ∙ any-All (IsRowOf t) (λ r. out r && has (set_at sets (number_in r i)) c)
    (λ r. out r && has (set_of (pairing_of t.outs t.sets r) i) c) t.rows named
    (λ r is. ap (λ (s : Cells). out r && has s c) (sym (set-named t r i is input)))
    ∙ sym (any-map (pairing_of t.outs t.sets) (λ r. has r.out x && has (set_of r i) c) t.rows)

-- the rows that have a set
pub rows-found : (t : RowTable) (f : SetFiles) (i number : ℕ) (x : Cell) → AreFiledByIns t i f
    → found number (λ n y. has (set_at t.outs (row_at t.rows n).out) y) f.rows.entries x ≡ adds t Forward i number x
rows-found t f i number x filed =
    let test : ℕ → Cell → Bool = λ n y. has (set_at t.outs (row_at t.rows n).out) y in
    ap (λ (es : List Filed). found number test es x) filed.rows
    ∙ found-numbers number test 0 (map (λ r. number_in r i) t.rows) x
    ∙ any_at-map (λ (r : Row). number_in r i) (λ k m. (m == number) && test k x) 0 t.rows
    ∙ any_at-elements (λ k r. (number_in r i == number) && test k x)
    (λ r. (number_in r i == number) && has (set_at t.outs r.out) x) 0 t.rows
    (λ k d below.
    let first : 0 + k ≡ k = omega arith in
    let row : Row = get_or t.rows k d in
    ap (λ b. (number_in row i == number) && b)
    (ap (λ (n : ℕ). test n x) first
    ∙ ap (λ (r : Row). has (set_at t.outs r.out) x) (row-here t.rows k d below)))
