-- The key idea: the numbers of each row, behind the starts of their arrays, are those of its region pair's sets in the
-- list of all sets, so that list and these rows spell the region pairs.
use Rattle.std.proofs.Common.{◌≡◌, ℕ, zero, suc, ◌+◌, ◌*◌, ◌^◌, ◌<◌, ◌≤◌, List, [], ◌∷◌, ◌++◌, map, length, get_or}
use Rattle.std.proofs.Common.{take, drop, refl, ap, ◌∙◌, arith, add-one, length-drop, All}
use Rattle.std.specs.List.{zip, range_with_len, AllZip, flat_map}
use Rattle.std.proofs.lemmas.Option.{slice_get_within, none-some}
use Rattle.std.proofs.lemmas.List.{length-map, length-take-le, get_or_default}
use Rattle.std.proofs.lemmas.List.Elements.{All-head, All-tail, All-map, All-nil, All-cons}
use Rattle.std.proofs.lemmas.List.Folds.{flat_map-map}
use Rattle.std.proofs.lemmas.List.FromFn.{get_or-range_with_len, length-range_with_len}
use Rattle.std.proofs.lemmas.List.FromFn.{get_or-map-range_with_len}
use Rattle.std.proofs.lemmas.Slice.Zip.{length-zip}
use Rattle.std.proofs.lemmas.Simd.{map-map}
use Rattle.sz_cells.specs.Extent.{Extent}
use Rattle.sz_cells.specs.Cells.{Cells}
use Rattle.sz_region.specs.Counted.{counted, rows_bytes}
use Rattle.sz_region.specs.FullBytes.{Listed, IsListed, IsFullWord, AreNamesOf, AreNumbersOf, listed_bytes, listed_of}
use Rattle.sz_region.specs.Putting.{AreRows}
use Rattle.sz_tables.specs.Tables.{SetsByNumber, AreDifferent}
use Rattle.sz_tables.specs.Rows.{Row, row_from, rows_of, set_at, sets_of, pairing_of, pairings, IsRowOf, table_of}
use Rattle.sz_tables.specs.Rows.{IsSound}
use Rattle.sz_tables.specs.Listing.{numbers_at, shifted, AreListed}
use Rattle.sz_tables.proofs.Taking.{sets-at, no_sets, read-extent}
use Rattle.sz_tables.proofs.Rows.{row-inside, rows-length}
use Rattle.sz_tables.proofs.Listing.{listed-different, listed-right, listed-named, length-starts, listed-few}
use Rattle.sz_tables.proofs.Listing.{length-shifted}

-- ---- lists made of numbers in order

all-range : (P : ℕ → Type 0) (count : ℕ) → ((n : ℕ) → n < count → P n) → All P (range_with_len 0 count)
all-range P count each k d below =
    let inside : k < count = omega (arith, length-range_with_len 0 count) in
    let same : 0 + k ≡ k = omega arith in
    rw (get_or-range_with_len 0 count k d inside, same) (each k inside)

pub all-zipped : {X A B : Type 0} (R : A → B → Type 0) (f : X → A) (g : X → B) (xs : List X)
    → All (λ (x : X). R (f x) (g x)) xs → AllZip R (map f xs) (map g xs)
all-zipped R f g [] all = tt
all-zipped R f g (x ∷ xs) all =
    (All-head (λ z. R (f z) (g z)) x xs all, all-zipped R f g xs (All-tail (λ z. R (f z) (g z)) x xs all))

-- numbers of things in a list are below its length
pub numbers-below : {X : Type 0} (table : List X) (ns : List ℕ) (xs : List X) (bound : ℕ) → AreNumbersOf table ns xs
    → length table < bound → All (λ (n : ℕ). n < bound) ns
numbers-below table [] xs bound named few = All-nil (λ (n : ℕ). n < bound)
numbers-below table (n ∷ ns) [] bound named few = absurd named
numbers-below table (n ∷ ns) (x ∷ xs) bound named few =
    All-cons (λ (n : ℕ). n < bound) n ns (omega (arith, slice_get_within table n x named.0))
    (numbers-below table ns xs bound named.1 few)

-- a row's numbers, from the first on
row-whole : (inputs : ℕ) (xs : List ℕ) → inputs + 1 ≤ length xs
    → take (inputs + 1) xs ≡ (row_from inputs xs).out ∷ (row_from inputs xs).ins
row-whole inputs [] long = absurd (omega arith)
row-whole inputs (x ∷ xs) long = rw add-one refl

-- the row of a number
row-read : (inputs count n : ℕ) (names : List ℕ) (d : Row) → n < count
    → get_or (rows_of inputs count names) n d ≡ row_from inputs (drop (n * (inputs + 1)) names)
row-read inputs count n names d below =
    get_or-map-range_with_len (λ (n : ℕ). row_from inputs (drop (n * (inputs + 1)) names)) 0 count n n d below
    (omega arith)

-- each number of a row is that of a set of its array
named-in : (outs : List Cells) (sets : List (List Cells)) (row : Row) (i : ℕ) → i < length (outs ∷ sets)
    → row.out < length outs → ((j : ℕ) → j < length sets → get_or row.ins j 0 < length (sets_of sets j))
    → get_or (row.out ∷ row.ins) i 0 < length (sets_of (outs ∷ sets) i)
named-in outs sets row zero below out each = out
named-in outs sets row (suc j) below out each = each j (omega arith)

-- ---- a table of region pairs, and its sets in one list

module _ (outs : SetsByNumber) (ins : List SetsByNumber) (names : List ℕ) (count rows runs capacity : ℕ)
    (table : List Listed) (starts : List ℕ) (sound : IsSound outs ins names count rows runs capacity)
    (listed : AreListed (outs ∷ ins) table starts) where
  -- there is a start for each array
  pub starts-long : length starts ≡ length ins + 1
  starts-long =
      ap length listed.starts_are
      ∙ (length-starts 0 (map (λ (t : SetsByNumber). t.sets) (outs ∷ ins))
      ∙ (omega (arith, length-map ins (λ (t : SetsByNumber). t.sets))))

  -- a row names sets that are there
  row-is : (n : ℕ) → n < count → IsRowOf (table_of outs ins names count rows runs)
      (row_from (length ins) (drop (n * (length ins + 1)) names))
  row-is n below =
      let d : Row = record { out = 0; ins = [] } in
      rw (row-read (length ins) count n names d below) at
      (sound.named n d (omega (arith, rows-length (length ins) count names)))

  -- there is a set for each input
  row-arity : (n : ℕ) → n < count → length (pairing_of outs.sets (map (λ (t : SetsByNumber). t.sets) ins)
      (row_from (length ins) (drop (n * (length ins + 1)) names))).ins
      ≡ length (map (λ (t : SetsByNumber). t.extent) ins)
  row-arity n below =
      let row = row_from (length ins) (drop (n * (length ins + 1)) names) in
      let sets = map (λ (t : SetsByNumber). t.sets) ins in
      let at = λ (p : List Cells × ℕ). set_at p.0 p.1 in
      omega (
        arith,
        length-map (zip sets row.ins) at,
        length-zip sets row.ins,
        (row-is n below).arity,
        length-map ins (λ (t : SetsByNumber). t.sets),
        length-map ins (λ (t : SetsByNumber). t.extent),
      )

  -- the numbers of a row are those of its region pair's sets
  pub row-named : (n : ℕ) → n < count → AreNumbersOf table (shifted starts (numbers_at (length starts) names n))
      (listed_of (pairing_of outs.sets (map (λ (t : SetsByNumber). t.sets) ins)
      (row_from (length ins) (drop (n * (length ins + 1)) names))))
  row-named n below =
      let row = row_from (length ins) (drop (n * (length ins + 1)) names) in
      let sets = map (λ (t : SetsByNumber). t.sets) ins in
      let long = length-map ins (λ (t : SetsByNumber). t.sets) in
      let long' = length-map ins (λ (t : SetsByNumber). t.extent) in
      let is = row-is n below in
      let whole = row-inside (length ins) count n names sound.whole below in
      let all : numbers_at (length starts) names n ≡ row.out ∷ row.ins =
      rw starts-long
      (row-whole (length ins) (drop (n * (length ins + 1)) names)
      (omega (arith, length-drop (n * (length ins + 1)) names))) in
      rw (all, listed.sets_are, listed.starts_are)
      (listed-named [] 0 (outs.sets ∷ sets) (row.out ∷ row.ins) (omega (arith, is.arity))
      (λ i h. named-in outs.sets sets row i h is.out (λ j g. is.ins j (omega arith))))

  -- there are few sets
  pub listed-short : 0 < count → length table < 2 ^ 32
  listed-short some =
      let sets = λ (t : SetsByNumber). t.sets in
      let two = sound.inputs (omega arith) in
      let few = listed-few 0 (2 ^ 30) (map sets (outs ∷ ins))
      (All-map (λ (s : List Cells). length s ≤ 2 ^ 30) sets (outs ∷ ins)
      (All-cons (λ (t : SetsByNumber). length t.sets ≤ 2 ^ 30) outs ins (omega (arith, sound.few_outs, sound.few))
      (λ k d h. omega (arith, sound.few_ins k d h, sound.few)))) in
      rw listed.sets_are (omega (arith, length-map ins sets))

  -- each is a set of its array's shape
  listed-each : All (IsListed outs.extent (map (λ (t : SetsByNumber). t.extent) ins)) table
  listed-each =
      let sets = λ (t : SetsByNumber). t.sets in
      let extents = map (λ (t : SetsByNumber). t.extent) ins in
      rw listed.sets_are
      (listed-right outs.extent extents 0 (map sets (outs ∷ ins))
      (omega (arith, length-map ins sets, length-map ins (λ (t : SetsByNumber). t.extent)))
      (λ i h. let inside : i < length (outs ∷ ins) = omega (arith, length-map ins sets) in
      let place : 0 + i ≡ i = omega arith in
      let t = get_or (outs ∷ ins) i no_sets in
      rw (
        place,
        read-extent (outs ∷ ins) i t inside (get_or_default (outs ∷ ins) i no_sets t inside),
        sets-at (outs ∷ ins) i no_sets inside,
      ) (listed.each i no_sets inside).each))

  -- the list and the rows spell the region pairs
  pub listed-word : 0 < count → IsFullWord outs.extent (map (λ (t : SetsByNumber). t.extent) ins) table
      (pairings (table_of outs ins names count rows runs))
      (counted listed_bytes table
      ++ rows_bytes (map (λ n. shifted starts (numbers_at (length starts) names n)) (range_with_len 0 count)))
  listed-word some =
      let sets = map (λ (t : SetsByNumber). t.sets) ins in
      let extents = map (λ (t : SetsByNumber). t.extent) ins in
      let rowf = λ (n : ℕ). row_from (length ins) (drop (n * (length ins + 1)) names) in
      let numbers = λ (n : ℕ). shifted starts (numbers_at (length starts) names n) in
      let pairs = λ (n : ℕ). pairing_of outs.sets sets (rowf n) in
      let same : map (pairing_of outs.sets sets) (map rowf (range_with_len 0 count))
      ≡ map pairs (range_with_len 0 count) =
      map-map (pairing_of outs.sets sets) rowf (range_with_len 0 count) in
      record {
        each = listed-each;
        few_sets = listed-short some;
        few =
            omega (
              arith,
              sound.few,
              length-map (rows_of (length ins) count names) (pairing_of outs.sets sets),
              rows-length (length ins) count names,
            );
        names = map numbers (range_with_len 0 count);
        named =
            rw same
            (all-zipped (AreNamesOf table (length extents)) numbers pairs (range_with_len 0 count)
            (all-range (λ (n : ℕ). AreNamesOf table (length extents) (numbers n) (pairs n)) count
            (λ n below. record { whole = row-arity n below; named = row-named n below })));
        spelled = refl;
      }

  -- no set of one array stands twice
  pub listed-once : AreDifferent table
  listed-once =
      let sets = λ (t : SetsByNumber). t.sets in
      rw listed.sets_are
      (listed-different 0 (map sets (outs ∷ ins))
      (λ i h. let inside : i < length (outs ∷ ins) = omega (arith, length-map ins sets) in
      rw (sets-at (outs ∷ ins) i no_sets inside) (listed.each i no_sets inside).different))

  -- how many numbers a row has
  row-width : (n : ℕ) → n < count → length (numbers_at (length starts) names n) ≡ length starts
  row-width n below =
      let whole = row-inside (length ins) count n names sound.whole below in
      rw starts-long
      (length-take-le (length ins + 1) (drop (n * (length ins + 1)) names)
      (omega (arith, length-drop (n * (length ins + 1)) names)))

  -- the numbers that are written, row by row
  pub listed-rows : AreRows (length starts)
      (flat_map (λ n. shifted starts (numbers_at (length starts) names n)) (range_with_len 0 count))
      (map (λ n. shifted starts (numbers_at (length starts) names n)) (range_with_len 0 count))
  listed-rows =
      let numbers = λ (n : ℕ). shifted starts (numbers_at (length starts) names n) in
      record {
        wide =
            All-map (λ (row : List ℕ). length row ≡ length starts) numbers (range_with_len 0 count)
            (all-range (λ (n : ℕ). length (numbers n) ≡ length starts) count
            (λ n below. length-shifted starts (numbers_at (length starts) names n) (row-width n below)
            ∙ row-width n below));
        flat = flat_map-map (λ (row : List ℕ). row) numbers (range_with_len 0 count);
      }

  -- the numbers fit, row by row
  pub listed-fits : 0 < count → (n : ℕ) → n < count
      → All (λ (k : ℕ). k < 2 ^ 32) (shifted starts (numbers_at (length starts) names n))
  listed-fits some n below = numbers-below table _ _ (2 ^ 32) (row-named n below) (listed-short some)

-- no region pair, and so no set
pub none-word : (out : Extent) (ins : List Extent) → IsFullWord out ins [] [] (counted listed_bytes [] ++ rows_bytes [])
none-word out ins = record {
  each = All-nil (IsListed out ins);
  few_sets = omega arith;
  few = omega arith;
  names = [];
  named = tt;
  spelled = refl;
}

pub none-rows : AreRows 1 [] []
none-rows = record { wide = All-nil (λ (row : List ℕ). length row ≡ 1); flat = refl }

pub none-twice : AreDifferent {X = Listed} []
none-twice m n x here there = absurd (none-some x here)
