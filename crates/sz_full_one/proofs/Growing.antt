-- A table with one region pair more: what is filed for it is what the files of the longer table have.
--
-- The key idea: entries stand in the order of what they are of, so those of a list with one element more are those of
-- the list, and behind them those of the element.
use Rattle.std.proofs.Common.{inl, inr, ◌≡◌, ℕ, zero, suc, ◌+◌, ◌-◌, ◌<◌, ◌≤◌, List, [], ◌∷◌, ◌++◌, map}
use Rattle.std.proofs.Common.{Some, None, length, get_or, refl, sym, ap, ap₂, subst, ◌∙◌, arith, append_assoc}
use Rattle.std.proofs.Common.{length-append, ◌≢◌, set, take, drop, get_or-set_same, get_or-set_other}
use Rattle.std.specs.Prelude.{unwrap_or, sum_by}
use Rattle.std.specs.List.{All, slice_get}
use Rattle.std.proofs.lemmas.Bool.{cases_lt}
use Rattle.std.proofs.lemmas.List.{length-map}
use Rattle.std.proofs.lemmas.List.Elements.{All-nil, All-push}
use Rattle.std.proofs.lemmas.List.Sums.{sum_by-cons}
use Rattle.std.proofs.lemmas.Option.{unwrap_or-slice_get, same_Some}
use Rattle.sz_cells.specs.Extent.{Extent, size_of}
use Rattle.sz_cells.specs.Cells.{Cells, no_cells}
use Rattle.sz_spec.specs.Values.{extent_at, no_extent}
use Rattle.sz_frame.specs.Parts.{Pairing}
use Rattle.sz_frame.specs.Stands.{set_of}
use Rattle.sz_full_one.specs.declared.index.SetFiles.{SetFiles}
use Rattle.sz_tables.specs.Filed.{Filed, Files}
use Rattle.sz_tables.specs.Rows.{Row, RowTable, row_at, number_in, sets_of, pairing_of, pairings, empty_rows}
use Rattle.sz_tables.specs.Stores.{cells_in}
use Rattle.sz_tables.specs.Tables.{HasAtMostOneMore}
use Rattle.sz_full_one.specs.ByCells.{under, by_cells, by_numbers, with_filed, pair_cells, IsGrownBy}
use Rattle.sz_full_one.specs.ByCells.{AreFiledByOuts, AreSetsFiled, AreFiledByIns, AreFilesOf, HasSameFiles}

-- ---- lists with one element more

-- what is no longer is the same
not-longer : {X : Type 0} (old new : List X) (x : X) → HasAtMostOneMore old new x → length new ≤ length old
    → new ≡ old
not-longer old new x (inl same) few = same
not-longer old new x (inr more) few =
    let long = ap (λ (xs : List _). length xs) more in
    absurd (omega (arith, long, length-append old (x ∷ []), few))

-- what is longer has the element behind it
one-longer : {X : Type 0} (old new : List X) (x : X) → HasAtMostOneMore old new x → length old < length new
    → new ≡ old ++ x ∷ []
one-longer old new x (inl same) many =
    let long = ap (λ (xs : List _). length xs) same in
    absurd (omega (arith, long, many))
one-longer old new x (inr more) many = more

-- a list that keeps what has a number, and has one element more
kept-and-one : {X : Type 0} (old new : List X) (d : X)
    → ((n : ℕ) (x : X) → slice_get old n ≡ Some x → slice_get new n ≡ Some x) → length new ≡ length old + 1
    → new ≡ old ++ get_or new (length old) d ∷ []
kept-and-one [] [] d kept one = absurd (omega arith)
kept-and-one [] (y ∷ []) d kept one = refl
kept-and-one [] (y ∷ z ∷ new) d kept one = absurd (omega arith)
kept-and-one (x ∷ old) [] d kept one = absurd (omega arith)
kept-and-one (x ∷ old) (y ∷ new) d kept one =
    let first = same_Some y x (kept 0 x refl) in
    ap₂ (λ z zs. z ∷ zs) first (kept-and-one old new d (λ n z at. kept (suc n) z at) (omega arith))

map-push : {X Y : Type 0} (f : X → Y) (xs : List X) (x : X) → map f (xs ++ x ∷ []) ≡ map f xs ++ f x ∷ []
map-push f [] x = refl
map-push f (y ∷ xs) x = ap (λ ys. f y ∷ ys) (map-push f xs x)

-- ---- their entries

by_cells-push : (n m : ℕ) (sets : List Cells) (s : Cells) → n + length sets ≡ m
    → by_cells n (sets ++ s ∷ []) ≡ by_cells n sets ++ under s.indexes m
by_cells-push n m [] s at = let same : n ≡ m = omega arith in
    ap (λ (es : List Filed). es) (sym (append-nil-at (under s.indexes n)) ∙ ap (under s.indexes) same) where
      append-nil-at : (es : List Filed) → es ≡ es ++ []
      append-nil-at [] = refl
      append-nil-at (e ∷ es) = ap (λ (xs : List Filed). e ∷ xs) (append-nil-at es)
by_cells-push n m (z ∷ sets) s at =
    ap (λ (es : List Filed). under z.indexes n ++ es) (by_cells-push (n + 1) m sets s (omega arith))
    ∙ sym (append_assoc (under z.indexes n) (by_cells (n + 1) sets) (under s.indexes m))

by_numbers-push : (n m : ℕ) (numbers : List ℕ) (k : ℕ) → n + length numbers ≡ m
    → by_numbers n (numbers ++ k ∷ []) ≡ by_numbers n numbers ++ record { key = k; item = m } ∷ []
by_numbers-push n m [] k at = let same : n ≡ m = omega arith in
    ap (λ (i : ℕ). record { key = k; item = i } ∷ []) same
by_numbers-push n m (j ∷ numbers) k at =
    ap (λ (es : List Filed). record { key = j; item = n } ∷ es) (by_numbers-push (n + 1) m numbers k (omega arith))

-- ---- what a region pair costs

sum-part : {X : Type 0} (f : X → ℕ) (xs : List X) (i : ℕ) (d : X) → f d ≡ 0
    → f (unwrap_or (slice_get xs i) d) ≤ sum_by f xs
sum-part f [] i d none = omega (arith, none)
sum-part f (x ∷ xs) zero d none = rw (sum_by-cons f x xs) (omega arith)
sum-part f (x ∷ xs) (suc i) d none = rw (sum_by-cons f x xs) (omega (arith, sum-part f xs i d none))

-- the cells of its set for an input are among its cells
pub set-costs : (r : Pairing) (i : ℕ) → cells_in (set_of r i) ≤ pair_cells r
set-costs r i = omega (arith, sum-part cells_in r.ins i (no_cells no_extent) refl)

pub out-costs : (r : Pairing) → cells_in r.out ≤ pair_cells r
out-costs r = omega arith

-- ---- shapes

extent-part : (ins : List Cells) (i : ℕ)
    → (unwrap_or (slice_get ins i) (no_cells no_extent)).extent ≡ extent_at (map (λ s. s.extent) ins) i
extent-part [] i = refl
extent-part (s ∷ ins) zero = refl
extent-part (s ∷ ins) (suc i) = extent-part ins i

-- the set of the region pair for an input is of the input's shape
pub set-shape : (old new : RowTable) (r : Pairing) (i : ℕ) → IsGrownBy old new r
    → (set_of r i).extent ≡ extent_at new.ins i
set-shape old new r i grown =
    extent-part r.ins i ∙ ap (λ (es : List Extent). extent_at es i) (grown.ins ∙ sym grown.kept.ins)

-- ---- the files of the longer table

-- the rows are those before and one more
pub one-row : (old new : RowTable) (r : Pairing) → IsGrownBy old new r
    → new.rows ≡ old.rows ++ row_at new.rows (length old.rows) ∷ []
one-row old new r grown =
    let none : Row = record { out = 0; ins = [] } in
    kept-and-one old.rows new.rows none grown.kept.rows grown.one
    ∙ ap (λ (x : Row). old.rows ++ x ∷ []) (sym (unwrap_or-slice_get new.rows (length old.rows) none))

-- the output sets
pub outs-filed : (old new : RowTable) (r : Pairing) (row : ℕ) (f g : Files) → IsGrownBy old new r
    → length new.rows ≡ row + 1 → AreFiledByOuts old f → g ≡ with_filed f r.out.indexes row → AreFiledByOuts new g
outs-filed old new r row f g grown last filed is =
    let count : length (map (λ (p : Pairing). p.out) (pairings old)) ≡ length old.rows =
    length-map (pairings old) (λ (p : Pairing). p.out) ∙ length-map old.rows (pairing_of old.outs old.sets) in
    record {
      keys = ap (λ (h : Files). h.keys) is ∙ filed.keys ∙ ap size_of (sym grown.kept.out);
      entries = ap (λ (h : Files). h.entries) is
          ∙ ap (λ (es : List Filed). es ++ under r.out.indexes row) filed.entries
          ∙ sym
          (ap (by_cells 0) (ap (map (λ p. p.out)) grown.pairings ∙ map-push (λ (p : Pairing). p.out) (pairings old) r)
          ∙ by_cells-push 0 row (map (λ p. p.out) (pairings old)) r.out (omega (arith, count, last, grown.one)));
      shapes = rw grown.pairings
          (subst (λ (e : Extent). All (λ p. p.out.extent ≡ e) (pairings old ++ r ∷ [])) (sym grown.kept.out)
          (All-push (λ (p : Pairing). p.out.extent ≡ old.out) (pairings old) r filed.shapes grown.out));
    }

-- the sets of an input, where none is new
pub sets-same : (old new : RowTable) (r : Pairing) (i : ℕ) (f : SetFiles) → IsGrownBy old new r → i < length new.ins
    → AreFiledByIns old i f → length (sets_of new.sets i) ≤ f.rows.keys → AreSetsFiled new i f
sets-same old new r i f grown inside filed few =
    let input : i < length old.ins = subst (λ (es : List Extent). i < length es) grown.kept.ins inside in
    let same = not-longer (sets_of old.sets i) (sets_of new.sets i) (set_of r i) (grown.sets i input)
    (omega (arith, few, filed.sets.numbers)) in
    let shape : extent_at new.ins i ≡ extent_at old.ins i = ap (λ (es : List Extent). extent_at es i) grown.kept.ins in
    record {
      keys = filed.sets.keys ∙ ap size_of (sym shape);
      entries = filed.sets.entries ∙ ap (by_cells 0) (sym same);
      shapes = rw (same, shape) filed.sets.shapes;
      numbers = filed.sets.numbers ∙ ap (λ (ss : List Cells). length ss) (sym same);
    }

-- and where the region pair's is new
pub sets-more : (old new : RowTable) (r : Pairing) (i : ℕ) (f g : SetFiles) → IsGrownBy old new r
    → i < length new.ins → AreFiledByIns old i f → f.rows.keys < length (sets_of new.sets i)
    → g.cells ≡ with_filed f.cells (set_of r i).indexes f.rows.keys → g.rows.keys ≡ f.rows.keys + 1
    → AreSetsFiled new i g
sets-more old new r i f g grown inside filed many cells numbers =
    let input : i < length old.ins = subst (λ (es : List Extent). i < length es) grown.kept.ins inside in
    let more = one-longer (sets_of old.sets i) (sets_of new.sets i) (set_of r i) (grown.sets i input)
    (omega (arith, many, filed.sets.numbers)) in
    let shape : extent_at new.ins i ≡ extent_at old.ins i = ap (λ (es : List Extent). extent_at es i) grown.kept.ins in
    record {
      keys = ap (λ (h : Files). h.keys) cells ∙ filed.sets.keys ∙ ap size_of (sym shape);
      entries = ap (λ (h : Files). h.entries) cells
          ∙ ap (λ (es : List Filed). es ++ under (set_of r i).indexes f.rows.keys) filed.sets.entries
          ∙ sym (ap (by_cells 0) more ∙ by_cells-push 0 f.rows.keys (sets_of old.sets i) (set_of r i)
          (omega (arith, filed.sets.numbers)));
      shapes = rw more
          (All-push (λ (s : Cells). s.extent ≡ extent_at new.ins i) (sets_of old.sets i) (set_of r i)
          (rw shape filed.sets.shapes) (set-shape old new r i grown));
      numbers = numbers
          ∙ ap (λ n. n + 1) filed.sets.numbers
          ∙ sym (ap (λ (ss : List Cells). length ss) more ∙ length-append (sets_of old.sets i) (set_of r i ∷ []));
    }

-- the rows of an input's sets
pub rows-filed : (old new : RowTable) (r : Pairing) (i row number : ℕ) (f g : SetFiles) → IsGrownBy old new r
    → length new.rows ≡ row + 1 → AreFiledByIns old i f → number ≡ number_in (row_at new.rows row) i
    → g.rows.entries ≡ f.rows.entries ++ record { key = number; item = row } ∷ []
    → g.rows.entries ≡ by_numbers 0 (map (λ x. number_in x i) new.rows)
rows-filed old new r i row number f g grown last filed at is =
    let here : length old.rows ≡ row = omega (arith, last, grown.one) in
    let count = length-map old.rows (λ (x : Row). number_in x i) in
    is
    ∙ ap₂ (λ (es : List Filed) (n : ℕ). es ++ record { key = n; item = row } ∷ []) filed.rows
    (at ∙ ap (λ (n : ℕ). number_in (row_at new.rows n) i) (sym here))
    ∙ sym
    (ap (λ (rs : List Row). by_numbers 0 (map (λ x. number_in x i) rs)) (one-row old new r grown)
    ∙ ap (by_numbers 0) (map-push (λ (x : Row). number_in x i) old.rows (row_at new.rows (length old.rows)))
    ∙ by_numbers-push 0 row (map (λ x. number_in x i) old.rows) (number_in (row_at new.rows (length old.rows)) i)
    (omega (arith, count, here)))

-- ---- a region pair's sets, by what keeps them

-- an input of the table is one of the region pair
pub in-region : (old new : RowTable) (r : Pairing) (i : ℕ) → IsGrownBy old new r → i < length new.ins
    → i < length r.ins
in-region old new r i grown inside =
    let many : length r.ins ≡ length new.ins =
    sym (length-map r.ins (λ (s : Cells). s.extent)) ∙ ap (λ (es : List Extent). length es) (grown.ins
    ∙ sym grown.kept.ins) in
    omega (arith, many, inside)

-- what a list's element at a place is seen as
given-part : {A X : Type 0} (f : A → X) (items : List A) (a : A) (i : ℕ) (d : X) → i < length items
    → a ≡ get_or items i a → f a ≡ unwrap_or (slice_get (map f items) i) d
given-part f [] a i d inside is = absurd (omega arith)
given-part f (b ∷ items) a zero d inside is = ap f is
given-part f (b ∷ items) a (suc i) d inside is = given-part f items a i d (omega arith) is

-- the set of a region pair for an input, by its place in the list that is lent
pub given-set : {A : Type 0} (f : A → Cells) (old new : RowTable) (r inside : Pairing) (items : List A) (a : A)
    (set : Cells) (i : ℕ) → IsGrownBy old new r → i < length new.ins → inside ≡ r → map f items ≡ inside.ins
    → a ≡ get_or items i a → set ≡ f a → set ≡ set_of r i
given-set f old new r inside items a set i grown below same list at is =
    let whole : map f items ≡ r.ins = list ∙ ap (λ (p : Pairing). p.ins) same in
    let many = sym (length-map items f) ∙ ap (λ (ss : List Cells). length ss) whole in
    is
    ∙ given-part f items a i (no_cells no_extent) (omega (arith, many, in-region old new r i grown below)) at
    ∙ ap (λ (ss : List Cells). unwrap_or (slice_get ss i) (no_cells no_extent)) whole

-- ---- lists of which each element is handled in turn

-- one element more was set
pub set-each : {X : Type 0} (P : ℕ → X → Type 0) (xs : List X) (n : ℕ) (x : X) → n < length xs
    → ((i : ℕ) (d : X) → i < n → P i (get_or xs i d)) → P n x
    → (i : ℕ) (d : X) → i < n + 1 → P i (get_or (set xs n x) i d)
set-each P xs n x inside before here i d below =
    elim (cases_lt i n) [
      | inl under ↦
          let apart : i ≢ n = omega arith in
          rw (get_or-set_other xs n i x d apart) (before i d under)
      | inr over ↦
          let same : i ≡ n = omega arith in
          rw (same, get_or-set_same xs n x d inside) here
    ]

-- one element more was put behind
pub push-each : {X : Type 0} (P : ℕ → X → Type 0) (xs : List X) (n : ℕ) (x : X) → length xs ≡ n
    → ((i : ℕ) (d : X) → i < n → P i (get_or xs i d)) → P n x
    → (i : ℕ) (d : X) → i < n + 1 → P i (get_or (xs ++ x ∷ []) i d)
push-each P [] n x long before here zero d below = let same : n ≡ 0 = sym long in subst (λ (m : ℕ). P m x) same here
push-each P [] n x long before here (suc i) d below = absurd (omega (arith, long))
push-each P (y ∷ xs) n x long before here zero d below = before 0 d (omega (arith, long))
push-each P (y ∷ xs) n x long before here (suc i) d below =
    let fewer : suc (length xs) ≡ n = long in
    push-each (λ k z. P (suc k) z) xs (length xs) x refl (λ k e under. before (suc k) e (omega (arith, fewer)))
    (subst (λ (m : ℕ). P m x) (sym fewer) here) i d (omega (arith, fewer))

-- an input without a set yet has no files
pub no-sets : (ins : List Extent) (i : ℕ) → sets_of (map (λ e. []) ins) i ≡ []
no-sets [] i = refl
no-sets (e ∷ ins) zero = refl
no-sets (e ∷ ins) (suc i) = no-sets ins i

-- the files of an input of a table without a region pair
pub files-none : (out : Extent) (ins : List Extent) (i : ℕ) (f : SetFiles) → f.cells.keys ≡ size_of (extent_at ins i)
    → f.cells.entries ≡ [] → f.rows.keys ≡ 0 → f.rows.entries ≡ [] → AreFiledByIns (empty_rows out ins) i f
files-none out ins i f keys cells numbers rows =
    let none = no-sets ins i in
    record {
      sets = record {
        keys = keys;
        entries = rw none cells;
        shapes = rw none (All-nil (λ s. s.extent ≡ extent_at ins i));
        numbers = rw none numbers;
      };
      rows = rows;
    }

-- what is written back into a list of the same length takes its place
pub written-back : {X : Type 0} (old new : List X) (len : ℕ) → len ≡ length old → length new ≡ length old
    → take len (new ++ drop (length new) old) ≡ new
written-back [] [] len long same = rw long refl
written-back [] (y ∷ new) len long same = absurd (omega arith)
written-back (x ∷ old) [] len long same = absurd (omega arith)
written-back (x ∷ old) (y ∷ new) len long same =
    rw long (ap (λ ys. y ∷ ys) (written-back old new (length old) refl (omega arith)))

-- files that keep their keys and entries
pub still-filed : (t : RowTable) (i : ℕ) (f g : SetFiles) → HasSameFiles f g → AreFiledByIns t i f
    → AreFiledByIns t i g
still-filed t i f g same filed = record {
  sets = record {
    keys = same.cells.keys ∙ filed.sets.keys;
    entries = same.cells.entries ∙ filed.sets.entries;
    shapes = filed.sets.shapes;
    numbers = same.rows.keys ∙ filed.sets.numbers;
  };
  rows = same.rows.entries ∙ filed.rows;
}

pub files-kept : (t : RowTable) (old new : List SetFiles) → length new ≡ length old
    → ((i : ℕ) (d : SetFiles) → i < length old → HasSameFiles (get_or old i d) (get_or new i d))
    → AreFilesOf t old → AreFilesOf t new
files-kept t old new same kept files = record {
  arity = same ∙ files.arity;
  each = λ i d inside.
      still-filed t i (get_or old i d) (get_or new i d) (kept i d (omega arith)) (files.each i d (omega arith));
}
