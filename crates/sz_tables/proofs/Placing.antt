-- The key idea: a listed set stands in the table of its array at the number of its place, and no set loses its number.
-- So names that lead to places of one array after another are names of listed sets, and the numbers of these places are
-- a row that spells the region pair of these sets.
use Rattle.std.proofs.Common.{◌≡◌, ℕ, zero, suc, ◌+◌, ◌<◌, ◌≤◌, List, [], ◌∷◌, ◌++◌, Some, map, length, get_or}
use Rattle.std.proofs.Common.{refl, sym, ap, ap₂, subst, ◌∙◌, inl, arith, All, set}
use Rattle.std.specs.List.{AllZip, slice_get, zip, flat_map}
use Rattle.std.proofs.lemmas.List.{length-map, get_or-map, map-set, map-id}
use Rattle.std.proofs.lemmas.Simd.{map-map}
use Rattle.std.proofs.lemmas.List.Elements.{All-nil, All-cons, All-map}
use Rattle.std.proofs.lemmas.Option.{slice_get_within, same_Some, unwrap_or-slice_get}
use Rattle.std.proofs.lemmas.Slice.Zip.{length-zip}
use Rattle.sz_cells.specs.Cells.{Cells}
use Rattle.sz_cells.specs.SetBytes.{four_bytes}
use Rattle.sz_cells.specs.Extent.{Extent}
use Rattle.sz_frame.specs.Parts.{Pairing}
use Rattle.sz_region.specs.FullBytes.{Listed, listed_from, AreNumbersOf, AreNamesOf}
use Rattle.sz_region.specs.Stores.{NoneAt, AreNamesFor, ArePairNames}
use Rattle.sz_cells.specs.declared.Run.{Run}
use Rattle.sz_spec.specs.Values.{no_extent, extent_at}
use Rattle.sz_tables.specs.Tables.{SetsByNumber, HasAtMostOneMore, spelled}
use Rattle.sz_tables.specs.Rows.{Row, RowTable, set_at, sets_of, pairing_of, IsRowOf, pairings, empty_sets}
use Rattle.sz_tables.specs.Rows.{rows_of, table_of}
use Rattle.sz_tables.specs.Placing.{IsOfArray, IsPlaced, Gets, IsRowNamed, place_for, places_from}
use Rattle.sz_tables.specs.declared.reading.Place.{Place}
use Rattle.sz_tables.proofs.Taking.{more-keeps, more-length, sets-at}

-- ---- lists place by place

-- what stands at the same place of the other list
pub zip-at : {X Y : Type 0} (R : X → Y → Type 0) (xs : List X) (ys : List Y) (n : ℕ) (x : X) → AllZip R xs ys
    → slice_get xs n ≡ Some x → (y : Y) × (slice_get ys n ≡ Some y) × R x y
zip-at R [] ys n x zip here = absurd (omega (arith, slice_get_within [] n x here))
zip-at R (w ∷ xs) [] n x zip here = elim zip [ ]
zip-at {X} {Y} R (w ∷ xs) (y ∷ ys) zero x zip here =
    (y, refl, subst (λ (v : X). R v y) (same_Some w x here) zip.0)
zip-at R (w ∷ xs) (y ∷ ys) (suc n) x zip here = zip-at R xs ys n x zip.1 here

-- a weaker relation
pub zip-weaker : {X Y : Type 0} (R S : X → Y → Type 0) (xs : List X) (ys : List Y) → ((x : X) (y : Y) → R x y → S x y)
    → AllZip R xs ys → AllZip S xs ys
zip-weaker R S [] [] weaker zip = tt
zip-weaker R S [] (y ∷ ys) weaker zip = elim zip [ ]
zip-weaker R S (x ∷ xs) [] weaker zip = elim zip [ ]
zip-weaker R S (x ∷ xs) (y ∷ ys) weaker zip = (weaker x y zip.0, zip-weaker R S xs ys weaker zip.1)

-- one of something for each
pub zip-map : {X Y Z : Type 0} (R : X → Y → Type 0) (S : X → Z → Type 0) (f : Y → Z) (xs : List X) (ys : List Y)
    → ((x : X) (y : Y) → R x y → S x (f y)) → AllZip R xs ys → AllZip S xs (map f ys)
zip-map R S f [] [] each zip = tt
zip-map R S f [] (y ∷ ys) each zip = elim zip [ ]
zip-map R S f (x ∷ xs) [] each zip = elim zip [ ]
zip-map R S f (x ∷ xs) (y ∷ ys) each zip = (each x y zip.0, zip-map R S f xs ys each zip.1)

pub zip-right : {X Y : Type 0} (R : X → Y → Type 0) (P : Y → Type 0) (xs : List X) (ys : List Y)
    → ((x : X) (y : Y) → R x y → P y) → AllZip R xs ys → All P ys
zip-right {X} {Y} R P [] [] each zip = All-nil P
zip-right R P [] (y ∷ ys) each zip = elim zip [ ]
zip-right R P (x ∷ xs) [] each zip = elim zip [ ]
zip-right {X} {Y} R P (x ∷ xs) (y ∷ ys) each zip = All-cons P y ys (each x y zip.0) (zip-right R P xs ys each zip.1)

-- ---- places of one array after another

pub places-more : (a : ℕ) (ks : List ℕ) (k : ℕ)
    → places_from a (ks ++ k ∷ []) ≡ places_from a ks ++ place_for (a + length ks) k ∷ []
places-more a [] k = ap (λ (n : ℕ). places_from n (k ∷ [])) (omega arith)
places-more a (j ∷ ks) k =
    let far : a + 1 + length ks ≡ a + suc (length ks) = omega arith in
    ap (λ (ps : List Place). place_for a j ∷ ps)
    (places-more (a + 1) ks k
    ∙ ap (λ (n : ℕ). places_from (a + 1) ks ++ place_for n k ∷ []) far)

-- names of places are names of listed sets of the same arrays
pub sets-named : (places : List Place) (listed : List Listed) (a : ℕ) (ns ks : List ℕ)
    → AllZip IsOfArray places listed → AreNumbersOf places ns (places_from a ks)
    → (sets : List Cells) × (length sets ≡ length ks) × AreNumbersOf listed ns (listed_from a sets)
sets-named places listed a [] [] same named = ([], refl, tt)
sets-named places listed a [] (k ∷ ks) same named = elim named [ ]
sets-named places listed a (n ∷ ns) [] same named = elim named [ ]
sets-named places listed a (n ∷ ns) (k ∷ ks) same named =
    let one = zip-at IsOfArray places listed n (place_for a k) same named.0 in
    let rest = sets-named places listed (a + 1) ns ks same named.1 in
    let make : ℕ → Listed = λ i. record { array = i; set = one.0.set } in (
      one.0.set ∷ rest.0,
      ap suc rest.1,
      (one.1 ∙ ap (λ (i : ℕ). Some (make i)) (sym one.2), rest.2),
    )

-- names of a row are names of some region pair
pub pair-named : (places : List Place) (listed : List Listed) (inputs : ℕ) → AllZip IsOfArray places listed
    → (ns : List ℕ) (row : Row) → IsRowNamed places inputs ns row
    → (r : Pairing) × AreNamesOf listed inputs ns r
pair-named places listed inputs same ns row is =
    let sets = sets-named places listed 0 ns (row.out ∷ row.ins) same is.named in
    let pair : (cs : List Cells) → length cs ≡ suc (length row.ins) → AreNumbersOf listed ns (listed_from 0 cs)
    → (r : Pairing) × AreNamesOf listed inputs ns r = elim [
      | [] ↦ λ none named. absurd (omega arith)
      | c ∷ cs ↦ λ long named. (
        record { out = c; ins = cs },
        record { whole = omega (arith, is.arity); named = named },
      )
    ] in
    pair sets.0 sets.1 sets.2

pub pairs-named : (places : List Place) (listed : List Listed) (inputs : ℕ) → AllZip IsOfArray places listed
    → (rows : List (List ℕ)) (made : List Row) → AllZip (IsRowNamed places inputs) rows made
    → (regions : List Pairing) × (length regions ≡ length made) × AllZip (AreNamesOf listed inputs) rows regions
pairs-named places listed inputs same [] [] named = ([], refl, tt)
pairs-named places listed inputs same [] (r ∷ made) named = elim named [ ]
pairs-named places listed inputs same (ns ∷ rows) [] named = elim named [ ]
pairs-named places listed inputs same (ns ∷ rows) (r ∷ made) named =
    let one = pair-named places listed inputs same ns r named.0 in
    let rest = pairs-named places listed inputs same rows made named.1 in
    (one.0 ∷ rest.0, ap suc rest.1, (one.1, rest.2))

-- numbers of places of one array after another are a row
pub row-named : (places : List Place) (inputs : ℕ) (ns ks : List ℕ) → length ks ≡ inputs + 1
    → AreNumbersOf places ns (places_from 0 ks)
    → (row : Row) × IsRowNamed places inputs ns row × (ks ≡ row.out ∷ row.ins)
row-named places inputs ns [] long named = absurd (omega arith)
row-named places inputs ns (k ∷ ks) long named = (
  record { out = k; ins = ks },
  record { arity = omega arith; named = named },
  refl,
)

-- where the next name is not there, no names of a region pair are
pub no-row : (places : List Place) (listed : List Listed) (inputs : ℕ) (bytes : List ℕ) (at : ℕ)
    → NoneAt (AreNamesFor listed 0 (inputs + 1)) (flat_map four_bytes) bytes at
    → NoneAt (ArePairNames listed inputs) (flat_map four_bytes) bytes at
no-row places listed inputs bytes at none ns rest is spelled =
    let whole = is.1.whole in
    none ns rest (is.0.out ∷ is.0.ins, omega (arith, whole), is.1.named) spelled

-- ---- what places and rows spell

-- a listed set keeps its place where tables get more
pub placed-kept : (old new : List (List Cells)) (array : ℕ) (s : Cells) (n : ℕ) → Gets old new array s n
    → (p : Place) (l : Listed) → IsPlaced old p l → IsPlaced new p l
placed-kept old new array s n gets p l is = record {
  array = is.array;
  set = more-keeps (sets_of old l.array) (sets_of new l.array) s (gets.each l.array) p.number l.set is.set;
}

-- the sets of a row are those that its names name
pub named-sets : (all tabs : List (List Cells)) (places : List Place) (listed : List Listed) (a : ℕ) (ns ks : List ℕ)
    → AllZip (IsPlaced all) places listed → length ks ≡ length tabs
    → ((i : ℕ) → i < length tabs → sets_of all (a + i) ≡ sets_of tabs i)
    → AreNumbersOf places ns (places_from a ks)
    → AreNumbersOf listed ns (listed_from a (map (λ (p : List Cells × ℕ). set_at p.0 p.1) (zip tabs ks)))
named-sets all [] places listed a [] [] placed long own named = tt
named-sets all [] places listed a (n ∷ ns) [] placed long own named = elim named [ ]
named-sets all [] places listed a ns (k ∷ ks) placed long own named = absurd (omega arith)
named-sets all (t ∷ tabs) places listed a ns [] placed long own named = absurd (omega arith)
named-sets all (t ∷ tabs) places listed a [] (k ∷ ks) placed long own named = elim named [ ]
named-sets all (t ∷ tabs) places listed a (n ∷ ns) (k ∷ ks) placed long own named =
    let one = zip-at (IsPlaced all) places listed n (place_for a k) placed named.0 in
    let at : a + 0 ≡ a = omega arith in
    let here : slice_get t k ≡ Some one.0.set =
    ap (λ (cs : List Cells). slice_get cs k) (sym (own 0 (omega arith)))
    ∙ ap (λ (i : ℕ). slice_get (sets_of all i) k) (at ∙ one.2.array) ∙ one.2.set in
    let make : ℕ → Cells → Listed = λ i s. record { array = i; set = s } in
    let there : set_at t k ≡ one.0.set = rw here refl in
    let is : one.0 ≡ make a (set_at t k) = ap₂ make (sym one.2.array) (sym there) in (
      one.1 ∙ ap (λ (l : Listed). Some l) is,
      named-sets all tabs places listed (a + 1) ns ks placed (omega arith)
          (λ i h. let next : a + 1 + i ≡ a + suc i = omega arith in rw next (own (suc i) (omega arith)))
          named.1,
    )

-- and are there
pub named-inside : (all : List (List Cells)) (places : List Place) (listed : List Listed) (a : ℕ) (ns ks : List ℕ)
    → AllZip (IsPlaced all) places listed → AreNumbersOf places ns (places_from a ks) → (i : ℕ) → i < length ks
    → get_or ks i 0 < length (sets_of all (a + i))
named-inside all places listed a ns [] placed named i below = absurd (omega arith)
named-inside all places listed a [] (k ∷ ks) placed named i below = elim named [ ]
named-inside all places listed a (n ∷ ns) (k ∷ ks) placed named zero below =
    let one = zip-at (IsPlaced all) places listed n (place_for a k) placed named.0 in
    let at : a + 0 ≡ a = omega arith in
    subst (λ (i : ℕ). k < length (sets_of all i)) (sym (at ∙ one.2.array))
    (slice_get_within (sets_of all one.0.array) k one.0.set one.2.set)
named-inside all places listed a (n ∷ ns) (k ∷ ks) placed named (suc i) below =
    let next : a + 1 + i ≡ a + suc i = omega arith in
    rw (← next) (named-inside all places listed (a + 1) ns ks placed named.1 i (omega arith))

nought : (i : ℕ) → 0 + i ≡ i
nought i = omega arith

-- so the row spells the region pair that its names name
pub row-names : (outs : List Cells) (sets : List (List Cells)) (places : List Place) (listed : List Listed)
    → AllZip (IsPlaced (outs ∷ sets)) places listed → (ns : List ℕ) (row : Row)
    → IsRowNamed places (length sets) ns row → AreNamesOf listed (length sets) ns (pairing_of outs sets row)
row-names outs sets places listed placed ns row is =
    let many : length (zip sets row.ins) ≡ length sets = length-zip sets row.ins ∙ (omega (arith, is.arity)) in
    record {
      whole = length-map (zip sets row.ins) (λ (p : List Cells × ℕ). set_at p.0 p.1) ∙ many;
      named =
          named-sets (outs ∷ sets) (outs ∷ sets) places listed 0 ns (row.out ∷ row.ins) placed
          (ap suc is.arity) (λ i h. ap (sets_of (outs ∷ sets)) (nought i)) is.named;
    }

-- and names sets that are there
pub row-inside : (t : RowTable) (places : List Place) (listed : List Listed)
    → AllZip (IsPlaced (t.outs ∷ t.sets)) places listed → (ns : List ℕ) (row : Row) → length t.sets ≡ length t.ins
    → IsRowNamed places (length t.sets) ns row → IsRowOf t row
row-inside t places listed placed ns row arrays is =
    let inside = named-inside (t.outs ∷ t.sets) places listed 0 ns (row.out ∷ row.ins) placed is.named in
    record {
      out = inside 0 (omega arith);
      arity = is.arity ∙ arrays;
      ins =
          λ i h. subst (λ (n : ℕ). get_or row.ins i 0 < length (sets_of (t.outs ∷ t.sets) n)) (nought (suc i))
          (inside (suc i) (omega (arith, is.arity, arrays)));
    }

-- ---- the tables of output and inputs

-- the output's table gets a set
pub gets-out : (old new : List Cells) (rest : List (List Cells)) (s : Cells) (n : ℕ) → slice_get new n ≡ Some s
    → HasAtMostOneMore old new s → Gets (old ∷ rest) (new ∷ rest) 0 s n
gets-out old new rest s n number more = record {
  number = number;
  each = elim [ zero ↦ more | suc i ↦ inl refl ];
}

-- the table of an input gets a set
more-at : (old : List (List Cells)) (j : ℕ) (new : List Cells) (s : Cells) → j < length old
    → HasAtMostOneMore (sets_of old j) new s → (i : ℕ) → HasAtMostOneMore (sets_of old i) (sets_of (set old j new) i) s
more-at [] j new s inside more i = absurd (omega arith)
more-at (t ∷ old) zero new s inside more zero = more
more-at (t ∷ old) zero new s inside more (suc i) = inl refl
more-at (t ∷ old) (suc j) new s inside more zero = inl refl
more-at (t ∷ old) (suc j) new s inside more (suc i) = more-at old j new s (omega arith) more i

there-at : (old : List (List Cells)) (j : ℕ) (new : List Cells) → j < length old → sets_of (set old j new) j ≡ new
there-at [] j new inside = absurd (omega arith)
there-at (t ∷ old) zero new inside = refl
there-at (t ∷ old) (suc j) new inside = there-at old j new (omega arith)

pub gets-in : (out : List Cells) (old : List (List Cells)) (j : ℕ) (new : List Cells) (s : Cells) (n : ℕ)
    → j < length old → slice_get new n ≡ Some s → HasAtMostOneMore (sets_of old j) new s
    → Gets (out ∷ old) (out ∷ set old j new) (suc j) s n
gets-in out old j new s n inside number more = record {
  number = rw (there-at old j new inside) number;
  each = elim [ zero ↦ inl refl | suc i ↦ more-at old j new s inside more i ];
}

-- no table gets more than one set
pub gets-few : (old new : List SetsByNumber) (array : ℕ) (s : Cells) (n most : ℕ)
    → Gets (map (λ (t : SetsByNumber). t.sets) old) (map (λ (t : SetsByNumber). t.sets) new) array s n
    → length new ≡ length old → All (λ (t : SetsByNumber). length t.sets ≤ most) old
    → All (λ (t : SetsByNumber). length t.sets ≤ most + 1) new
gets-few old new array s n most gets many few k d below =
    let inside : k < length old = omega (arith, many) in
    let sets = λ (t : SetsByNumber). t.sets in
    let more = more-length (sets_of (map sets old) k) (sets_of (map sets new) k) s (gets.each k) in
    let before : length (sets_of (map sets old) k) ≡ length (get_or old k d).sets =
    ap length (sets-at old k d inside) in
    let after : length (sets_of (map sets new) k) ≡ length (get_or new k d).sets = ap length (sets-at new k d below) in
    omega (arith, few k d inside, more.1, before, after)

-- the shape of an input's table, and what becomes of it where a set that runs spell is added
pub extent-in : (e : Extent) (tables : List SetsByNumber) (j : ℕ) (d : SetsByNumber) → j < length tables
    → extent_at (e ∷ map (λ (t : SetsByNumber). t.extent) tables) (suc j) ≡ (get_or tables j d).extent
extent-in e tables j d inside =
    let extent = λ (t : SetsByNumber). t.extent in
    unwrap_or-slice_get (map extent tables) j no_extent ∙ get_or-map extent tables j d no_extent inside

pub gets-at : (outs : SetsByNumber) (tables : List SetsByNumber) (j : ℕ) (d new : SetsByNumber) (runs : List Run)
    (n : ℕ) → j < length tables → slice_get new.sets n ≡ Some (spelled (get_or tables j d).extent runs)
    → HasAtMostOneMore (get_or tables j d).sets new.sets (spelled (get_or tables j d).extent runs)
    → Gets (map (λ (t : SetsByNumber). t.sets) (outs ∷ tables))
    (map (λ (t : SetsByNumber). t.sets) (outs ∷ set tables j new)) (suc j)
    (spelled (extent_at (map (λ (t : SetsByNumber). t.extent) (outs ∷ tables)) (suc j)) runs) n
gets-at outs tables j d new runs n inside number more =
    let sets = λ (t : SetsByNumber). t.sets in
    let e = (get_or tables j d).extent in
    let many : j < length (map sets tables) = omega (arith, length-map tables sets) in
    let own : HasAtMostOneMore (sets_of (map sets tables) j) new.sets (spelled e runs) =
    subst (λ (xs : List Cells). HasAtMostOneMore xs new.sets (spelled e runs)) (sym (sets-at tables j d inside)) more in
    let gets = gets-in outs.sets (map sets tables) j new.sets (spelled e runs) n many number own in
    subst (λ (x : Extent). Gets (outs.sets ∷ map sets tables) (outs.sets ∷ map sets (set tables j new)) (suc j)
    (spelled x runs) n) (sym (extent-in outs.extent tables j d inside))
    (subst (λ (xs : List (List Cells)). Gets (outs.sets ∷ map sets tables) (outs.sets ∷ xs) (suc j) (spelled e runs) n)
    (sym (map-set sets tables j new)) gets)

-- tables that have no set yet, of these shapes
pub none-there : (out : Extent) (ins : List Extent) → All (λ (t : SetsByNumber). t.sets ≡ []) (map empty_sets
    (out ∷ ins))
none-there out ins = All-map (λ (t : SetsByNumber). t.sets ≡ []) empty_sets (out ∷ ins) (λ k d below. refl)

pub shapes-there : (es : List Extent) → map (λ (t : SetsByNumber). t.extent) (map empty_sets es) ≡ es
shapes-there es = map-map (λ (t : SetsByNumber). t.extent) empty_sets es ∙ map-id es

-- listed sets are of the arrays of their places
pub placed-arrays : (all : List (List Cells)) (places : List Place) (listed : List Listed)
    → AllZip (IsPlaced all) places listed → AllZip IsOfArray places listed
placed-arrays all places listed placed =
    zip-weaker (IsPlaced all) IsOfArray places listed (λ p l is. is.array) placed

-- the rows of a table name sets that are there, and spell the region pairs that their names name
pub rows-inside : (t : RowTable) (places : List Place) (listed : List Listed) (rows : List (List ℕ))
    → AllZip (IsPlaced (t.outs ∷ t.sets)) places listed → length t.sets ≡ length t.ins
    → AllZip (IsRowNamed places (length t.sets)) rows t.rows → All (IsRowOf t) t.rows
rows-inside t places listed rows placed arrays named =
    zip-right (IsRowNamed places (length t.sets)) (IsRowOf t) rows t.rows
    (λ ns row is. row-inside t places listed placed ns row arrays is) named

pub rows-names : (t : RowTable) (places : List Place) (listed : List Listed) (rows : List (List ℕ))
    → AllZip (IsPlaced (t.outs ∷ t.sets)) places listed
    → AllZip (IsRowNamed places (length t.sets)) rows t.rows
    → AllZip (AreNamesOf listed (length t.sets)) rows (pairings t)
rows-names t places listed rows placed named =
    zip-map (IsRowNamed places (length t.sets)) (AreNamesOf listed (length t.sets))
    (pairing_of t.outs t.sets) rows t.rows
    (λ ns row is. row-names t.outs t.sets places listed placed ns row is) named

-- so a table with the sets that stand at the places has the region pairs that were read
pub read-table : (outs : SetsByNumber) (tables : List SetsByNumber) (names : List ℕ) (count inputs : ℕ)
    (places read : List Place) (listed : List Listed) (rows : List (List ℕ)) → length tables ≡ inputs → read ≡ places
    → AllZip (IsPlaced (map (λ (t : SetsByNumber). t.sets) (outs ∷ tables))) places listed
    → AllZip (IsRowNamed read inputs) rows (rows_of inputs count names)
    → All (IsRowOf (table_of outs tables names count 0 0)) (rows_of (length tables) count names)
    × AllZip (AreNamesOf listed inputs) rows (pairings (table_of outs tables names count 0 0))
read-table outs tables names count inputs places read listed rows many same placed named =
    let t = table_of outs tables names count 0 0 in
    let n : length tables ≡ length t.sets = sym (length-map tables (λ (x : SetsByNumber). x.sets)) in
    let arrays : length t.sets ≡ length t.ins = sym n ∙ sym (length-map tables (λ (x : SetsByNumber). x.extent)) in
    let here : AllZip (IsRowNamed places inputs) rows (rows_of inputs count names) =
    subst (λ (ps : List Place). AllZip (IsRowNamed ps inputs) rows (rows_of inputs count names)) same named in
    let there : AllZip (IsRowNamed places (length tables)) rows t.rows =
    subst (λ (m : ℕ). AllZip (IsRowNamed places m) rows (rows_of m count names)) (sym many) here in
    let own : AllZip (IsRowNamed places (length t.sets)) rows t.rows =
    subst (λ (m : ℕ). AllZip (IsRowNamed places m) rows t.rows) n there in (
      rows-inside t places listed rows placed arrays own,
      subst (λ (m : ℕ). AllZip (AreNamesOf listed m) rows (pairings t)) (sym n ∙ many)
          (rows-names t places listed rows placed own),
    )
