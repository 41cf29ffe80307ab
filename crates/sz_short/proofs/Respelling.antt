-- A store spelled again: what its parts say of it, in either spelling of its sets.
--
-- The key idea: no word of a part begins another, so where a store begins, the parts that were read are its parts; and
-- the same parts, with the sets spelled in the other way, make the other store.
use Rattle.std.proofs.Common.{◌≡◌, ℕ, suc, ◌+◌, ◌*◌, ◌^◌, ◌<◌, ◌≤◌, List, [], ◌∷◌, ◌++◌, length, take, drop, true}
use Rattle.std.proofs.Common.{get_or, refl, sym, ap, ap₂, subst, ◌∙◌, arith, append_assoc, length-append, length-drop}
use Rattle.std.specs.List.{All, AllZip, flat_map}
use Rattle.std.specs.Prelude.{Result}
use Rattle.std.specs.Result.{IfErr, IsErrAnd}
use Rattle.std.proofs.lemmas.Result.{err_from_is_err_and}
use Rattle.std.proofs.Math.Seq.{drop-drop, drop-append_seam}
use Rattle.std.proofs.lemmas.List.{append-nil, length-take-le, take-append-drop, take_at}
use Rattle.std.proofs.lemmas.List.Concat.{flat_map-append}
use Rattle.std.proofs.lemmas.List.Elements.{All-head, All-tail, All-weaker, All-get_or}
use Rattle.std.proofs.lemmas.Option.{unwrap_or-slice_get}
use Rattle.sz_cells.specs.Extent.{Extent, is_extent}
use Rattle.sz_cells.specs.Cells.{Cells}
use Rattle.sz_cells.specs.SetBytes.{IsSetOf, set_bytes, four_bytes}
use Rattle.sz_cells.proofs.LawsOfSets.{split-same, bytes-one}
use Rattle.sz_spec.specs.Values.{extent_at, no_extent}
use Rattle.sz_region.specs.declared.set_bytes.Take.{Take}
use Rattle.sz_region.specs.declared.set_bytes.Take.TheVariants.{Bad, NoMemory}
use Rattle.sz_frame.specs.Parts.{Pairing}
use Rattle.sz_region.specs.Counted.{counted, rows_bytes, IsAt}
use Rattle.sz_region.specs.FullBytes.{Listed, IsListed, listed_of, AreNamesOf, BeginsRegions}
use Rattle.sz_region.specs.Taking.{NoneBegins, SaysNoneBegins}
use Rattle.sz_region.specs.Stores.{OnBad, NoneAt, AreFew, NoRegionsBegin, ArePairNames}
use Rattle.sz_region.proofs.Numbering.{zip-length, listed-length}
use Rattle.sz_region.proofs.Names.{rows-some}
use Rattle.sz_region.proofs.Spans.{IsPrefixFree, at-byte, at-both, counted-free, number-free, number-read, first-read}
use Rattle.sz_region.proofs.Spans.{on_bad-weaker}
use Rattle.sz_short.specs.declared.ways.Way.{Way}
use Rattle.sz_short.specs.declared.ways.Way.TheVariants.{Shorten, Widen}
use Rattle.sz_short.specs.ShortSets.{short_set_bytes, BeginsShortSet, NoShortSetBegins, SaysNoShortSet}
use Rattle.sz_short.specs.ShortStores.{listed_by, AreFullParts, full_word, BeginsFull, NoFullBegins, RespellsFull}
use Rattle.sz_short.specs.ShortStores.{AreRowsOf, IsBlock}
use Rattle.sz_short.specs.Ways.{read_bytes}
use Rattle.sz_short.proofs.ShortRuns.{sets-one}

-- a refusal that is passed on tells what follows from what it told
pub passed : {T P Q : Type 0} (r : Result T Take) (e : Take) → IsErrAnd r (λ f. f ≡ e) → (P → Q) → OnBad e P
    → IfErr r (λ f. OnBad f Q)
passed r e is so told = let p = err_from_is_err_and r is in rw (p.1, p.2) (on_bad-weaker e so told)

-- ---- sets in either spelling

-- what stands behind a word
ends-word : (at : ℕ) (bytes word rest : List ℕ) → drop at bytes ≡ word ++ rest → drop (at + length word) bytes ≡ rest
ends-word at bytes word rest spelled =
    sym (drop-drop (length word) at bytes) ∙ ap (drop (length word)) spelled ∙ drop-append_seam word rest

pub none-set : (e : Extent) (bytes : List ℕ) (at : ℕ) → NoneBegins e bytes at
    → NoneAt (IsSetOf e) set_bytes bytes at
none-set e bytes at none set rest is spelled =
    none (at + length (set_bytes set)) set (record {
      is_set = is;
      rest = rest;
      spelled = spelled;
      ends = ends-word at bytes (set_bytes set) rest spelled;
    })

pub none-short-set : (e : Extent) (bytes : List ℕ) (at : ℕ) → NoShortSetBegins e bytes at
    → NoneAt (IsSetOf e) short_set_bytes bytes at
none-short-set e bytes at none set rest is spelled =
    none (at + length (short_set_bytes set)) set (record {
      is_set = is;
      rest = rest;
      spelled = spelled;
      ends = ends-word at bytes (short_set_bytes set) rest spelled;
    })

-- what is said where no set is read
pub on_bad-long : (e : Extent) (bytes : List ℕ) (at : ℕ) (fault : Take) → SaysNoneBegins e bytes at fault
    → OnBad fault (NoneAt (IsSetOf e) set_bytes bytes at)
on_bad-long e bytes at (Bad place) says = none-set e bytes at says.1
on_bad-long e bytes at NoMemory says = tt

pub on_bad-short : (e : Extent) (bytes : List ℕ) (at : ℕ) (fault : Take) → SaysNoShortSet e bytes at fault
    → OnBad fault (NoneAt (IsSetOf e) short_set_bytes bytes at)
on_bad-short e bytes at (Bad place) says = none-short-set e bytes at says.1
on_bad-short e bytes at NoMemory says = tt

pub at-short-set : (e : Extent) (bytes : List ℕ) (at next : ℕ) (set : Cells) → BeginsShortSet e bytes at next set
    → next ≤ length bytes → IsAt bytes at next (short_set_bytes set)
at-short-set e bytes at next set begins inside = record {
  spelled = begins.spelled ∙ ap (λ (xs : List ℕ). short_set_bytes set ++ xs) (sym begins.ends);
  within = inside;
}

-- a spelling by which sets of a shape are known
abbrev pub AreKnownBy : (Cells → List ℕ) → Type 0
AreKnownBy spell = (e : Extent) → is_extent e ≡ true → IsPrefixFree (IsSetOf e) spell

pub long-known : AreKnownBy set_bytes
long-known e within a b x y is are same = bytes-one e a b x y within is are same

pub short-known : AreKnownBy short_set_bytes
short-known e within a b x y is are same = sets-one e a b x y within is are same

pub read-known : (way : Way) → AreKnownBy (read_bytes way)
read-known Shorten = long-known
read-known Widen = short-known

-- ---- sets with their arrays

pub listed-known : (spell : Cells → List ℕ) → AreKnownBy spell → (out : Extent) (ins : List Extent)
    → All (λ e. is_extent e ≡ true) (out ∷ ins) → IsPrefixFree (IsListed out ins) (listed_by spell)
listed-known spell known out ins right x y a b one other same =
    let split = split-same (x.array ∷ []) (y.array ∷ []) (spell x.set ++ a) (spell y.set ++ b) refl same in
    let array : x.array ≡ y.array = ap (λ (xs : List ℕ). get_or xs 0 0) split.0 in
    let e = extent_at (out ∷ ins) x.array in
    let within : is_extent e ≡ true =
    subst (λ (s : Extent). is_extent s ≡ true) (sym (unwrap_or-slice_get (out ∷ ins) x.array no_extent))
    (All-get_or (λ s. is_extent s ≡ true) (out ∷ ins) x.array no_extent (omega (arith, one.array)) right) in
    let sets = known e within x.set y.set a b one.set
    (subst (λ (k : ℕ). IsSetOf (extent_at (out ∷ ins) k) y.set) (sym array) other.set) split.1 in
    let make : ℕ → Cells → Listed = λ n s. record { array = n; set = s } in
    (ap₂ make array sets.0, sets.1)

-- the byte at a place is the array's
listed-array : (spell : Cells → List ℕ) (bytes : List ℕ) (at : ℕ) (l : Listed) (rest : List ℕ) → at < length bytes
    → drop at bytes ≡ listed_by spell l ++ rest
    → (get_or bytes at 0 ≡ l.array) × (drop (at + 1) bytes ≡ spell l.set ++ rest)
listed-array spell bytes at l rest inside spelled =
    let split = split-same (get_or bytes at 0 ∷ []) (l.array ∷ []) (drop (at + 1) bytes) (spell l.set ++ rest) refl
    (sym (at-byte bytes at inside).spelled ∙ spelled) in
    (ap (λ (xs : List ℕ). get_or xs 0 0) split.0, split.1)

pub no-listed-byte : (spell : Cells → List ℕ) (out : Extent) (ins : List Extent) (bytes : List ℕ) (at : ℕ)
    → length bytes ≤ at → NoneAt (IsListed out ins) (listed_by spell) bytes at
no-listed-byte spell out ins bytes at past l rest is spelled = omega (arith, ap length spelled, length-drop at bytes)

pub no-listed-array : (spell : Cells → List ℕ) (out : Extent) (ins : List Extent) (bytes : List ℕ) (at : ℕ)
    → at < length bytes → length ins < get_or bytes at 0 → NoneAt (IsListed out ins) (listed_by spell) bytes at
no-listed-array spell out ins bytes at inside past l rest is spelled =
    omega (arith, (listed-array spell bytes at l rest inside spelled).0, is.array)

pub no-listed-set : (spell : Cells → List ℕ) (out : Extent) (ins : List Extent) (e : Extent) (bytes : List ℕ) (at : ℕ)
    → at < length bytes → e ≡ extent_at (out ∷ ins) (get_or bytes at 0)
    → NoneAt (IsSetOf e) spell bytes (at + 1) → NoneAt (IsListed out ins) (listed_by spell) bytes at
no-listed-set spell out ins e bytes at inside shape none l rest is spelled =
    let parts = listed-array spell bytes at l rest inside spelled in
    none l.set rest
    (subst (λ (x : Extent). IsSetOf x l.set) (ap (extent_at (out ∷ ins)) (sym parts.0) ∙ sym shape) is.set) parts.1

pub at-listed : (spell : Cells → List ℕ) (bytes : List ℕ) (at next : ℕ) (set : Cells) → at < length bytes
    → IsAt bytes (at + 1) next (spell set)
    → IsAt bytes at next (listed_by spell (record { array = get_or bytes at 0; set = set }))
at-listed spell bytes at next set inside read =
    at-both bytes at (at + 1) next (get_or bytes at 0 ∷ []) (spell set) (at-byte bytes at inside) read

-- ---- rows of names

row-long : (row : List ℕ) → length (flat_map four_bytes row) ≡ length row * 4
row-long [] = refl
row-long (n ∷ row) = omega (arith, row-long row)

-- rows of one width are so many bytes
pub rows-long : (width : ℕ) (rows : List (List ℕ)) → All (λ row. length row ≡ width) rows
    → length (flat_map (flat_map four_bytes) rows) ≡ length rows * width * 4
rows-long width [] wide = omega arith
rows-long width (row ∷ rows) wide =
    let rest = rows-long width rows (All-tail (λ xs. length xs ≡ width) row rows wide) in
    let here : length (flat_map four_bytes row) ≡ width * 4 =
    row-long row ∙ ap (λ (n : ℕ). n * 4) (All-head (λ xs. length xs ≡ width) row rows wide) in
    omega (arith, length-append (flat_map four_bytes row) (flat_map (flat_map four_bytes) rows), here, rest)

-- rows are as many as the number before them, and fit
pub rows-fit : (width : ℕ) (bytes : List ℕ) (at count : ℕ) (rows : List (List ℕ)) (rest : List ℕ)
    → IsAt bytes at (at + 4) (four_bytes count) → count < 2 ^ 32 → AreRowsOf width rows
    → drop at bytes ≡ rows_bytes rows ++ rest → at + 4 + count * width * 4 ≤ length bytes
rows-fit width bytes at count rows rest number small are spelled =
    let flat = flat_map (flat_map four_bytes) rows in
    let read = number-read bytes at count (length rows) (flat ++ rest) number small are.few spelled in
    let long : length flat ≡ count * width * 4 =
    rows-long width rows are.wide ∙ ap (λ (n : ℕ). n * width * 4) (sym read.0) in
    omega (
      arith,
      ap length read.1,
      length-drop (at + 4) bytes,
      length-append flat rest,
      long,
      number.within,
    )

-- a block that fits is there
pub make-block : (width : ℕ) (bytes : List ℕ) (at count : ℕ) → IsAt bytes at (at + 4) (four_bytes count)
    → count < 2 ^ 32 → at + 4 + count * width * 4 ≤ length bytes
    → (block : List ℕ) × IsBlock width block × IsAt bytes at (at + 4 + count * width * 4) block
make-block width bytes at count number small fits =
    let long = count * width * 4 in
    let behind = drop (at + 4) bytes in
    let body = take long behind in
    let read : IsAt bytes (at + 4) (at + 4 + long) body = record {
      spelled = sym (take-append-drop long behind)
          ∙ ap (λ (w : List ℕ). body ++ w) (drop-drop long (at + 4) bytes);
      within = fits;
    } in (
      four_bytes count ++ body,
      record {
        count = count;
        body = body;
        small = small;
        spelled = refl;
        long = length-take-le long behind (omega (arith, length-drop (at + 4) bytes));
      },
      at-both bytes at (at + 4) (at + 4 + long) (four_bytes count) body number read,
    )

-- a block that begins rows is their bytes
pub block-rows : (width : ℕ) (block : List ℕ) (rows : List (List ℕ)) (t rest : List ℕ) → IsBlock width block
    → AreRowsOf width rows → block ++ t ≡ rows_bytes rows ++ rest → block ≡ rows_bytes rows
block-rows width block rows t rest is are same =
    let flat = flat_map (flat_map four_bytes) rows in
    let counts = number-free is.count (length rows) (is.body ++ t) (flat ++ rest) is.small are.few
    (ap (λ (w : List ℕ). w ++ t) (sym is.spelled) ∙ same) in
    let long : length is.body ≡ length flat =
    is.long ∙ ap (λ (n : ℕ). n * width * 4) counts.0 ∙ sym (rows-long width rows are.wide) in
    let bodies = split-same is.body flat t rest long counts.1 in
    is.spelled ∙ ap₂ (λ (n : ℕ) (w : List ℕ). four_bytes n ++ w) counts.0 bodies.0

-- ---- tables

-- one more thing was written
pub grows : {X : Type 0} (word : X → List ℕ) (start : List ℕ) (xs : List X) (x : X) (mid new : List ℕ)
    → mid ≡ start ++ flat_map word xs → new ≡ mid ++ word x → new ≡ start ++ flat_map word (xs ++ x ∷ [])
grows word start xs x mid new so_far more =
    more ∙ ap (λ (w : List ℕ). w ++ word x) so_far ∙ append_assoc start (flat_map word xs) (word x)
    ∙ ap (λ (w : List ℕ). start ++ w) (ap (λ (w : List ℕ). flat_map word xs ++ w) (sym (append-nil (word x)))
    ∙ sym (flat_map-append word xs (x ∷ [])))

-- the number of things, and those so far
pub whole-so-far : {X : Type 0} (word : X → List ℕ) (old : List ℕ) (count : ℕ) (xs : List X) (start mid : List ℕ)
    → start ≡ old ++ four_bytes count → mid ≡ start ++ flat_map word xs
    → mid ≡ old ++ (four_bytes count ++ flat_map word xs)
whole-so-far word old count xs start mid head so_far =
    so_far ∙ ap (λ (w : List ℕ). w ++ flat_map word xs) head ∙ append_assoc old (four_bytes count) (flat_map word xs)

-- and all of them
pub whole-table : {X : Type 0} (word : X → List ℕ) (old : List ℕ) (count : ℕ) (xs : List X) (start mid : List ℕ)
    → start ≡ old ++ four_bytes count → mid ≡ start ++ flat_map word xs → count ≡ length xs
    → mid ≡ old ++ counted word xs
whole-table word old count xs start mid head so_far all =
    whole-so-far word old count xs start mid head so_far
    ∙ ap (λ (n : ℕ). old ++ (four_bytes n ++ flat_map word xs)) all

-- what was read of it
pub at-table : {X : Type 0} (word : X → List ℕ) (bytes : List ℕ) (at place count : ℕ) (xs : List X)
    → IsAt bytes at (at + 4) (four_bytes count) → IsAt bytes (at + 4) place (flat_map word xs) → count ≡ length xs
    → IsAt bytes at place (counted word xs)
at-table word bytes at place count xs number read all =
    subst (λ (n : ℕ). IsAt bytes at place (four_bytes n ++ flat_map word xs)) all
    (at-both bytes at (at + 4) place (four_bytes count) (flat_map word xs) number read)

-- what was there before is still there
pub kept-before : (old word now : List ℕ) → now ≡ old ++ word → take (length old) now ≡ old
kept-before old word now is = ap (take (length old)) is ∙ take_at old word (length old) refl

-- ---- stores of full lineage

-- names of region pairs are rows
pub names-rows : (table : List Listed) (inputs : ℕ) (names : List (List ℕ)) (regions : List Pairing)
    → AllZip (AreNamesOf table inputs) names regions → length regions ≤ 2 ^ 30 → AreRowsOf (inputs + 1) names
names-rows table inputs names regions named few =
    let wide : (row : List ℕ) → ArePairNames table inputs row → length row ≡ inputs + 1 = λ row is.
    let long = zip-length _ row (listed_of is.0) is.1.named ∙ listed-length 0 (is.0.out ∷ is.0.ins)
    ∙ ap suc is.1.whole in
    omega (arith, long) in
    record {
      wide = All-weaker (ArePairNames table inputs) (λ row. length row ≡ inputs + 1) wide names
          (rows-some table inputs names regions named);
      few = omega (arith, zip-length (AreNamesOf table inputs) names regions named, few);
    }

-- the parts' bytes are those of a store
pub full-begins : (spell : Cells → List ℕ) (out : Extent) (ins : List Extent) (bytes : List ℕ) (at next : ℕ)
    (table : List Listed) (names : List (List ℕ)) (regions : List Pairing)
    → AreFullParts out ins table names regions → IsAt bytes at next (full_word spell table names)
    → BeginsFull spell out ins bytes at next regions
full-begins spell out ins bytes at next table names regions are read = record {
  table = table;
  names = names;
  rest = drop next bytes;
  are = are;
  spelled = read.spelled;
  ends = refl;
}

-- a store with sets of eight bytes a run, as it is stated elsewhere
pub begins-long : (out : Extent) (ins : List Extent) (bytes : List ℕ) (at next : ℕ) (regions : List Pairing)
    → BeginsRegions out ins bytes at next regions → BeginsFull set_bytes out ins bytes at next regions
begins-long out ins bytes at next regions begins = record {
  table = begins.table;
  names = begins.is_word.names;
  rest = begins.rest;
  are = record {
    each = begins.is_word.each;
    few_sets = begins.is_word.few_sets;
    few = begins.is_word.few;
    named = begins.is_word.named;
  };
  spelled = begins.spelled ∙ ap (λ (w : List ℕ). w ++ begins.rest) begins.is_word.spelled;
  ends = begins.ends;
}

pub long-begins : (out : Extent) (ins : List Extent) (bytes : List ℕ) (at next : ℕ) (regions : List Pairing)
    → BeginsFull set_bytes out ins bytes at next regions → BeginsRegions out ins bytes at next regions
long-begins out ins bytes at next regions begins = record {
  table = begins.table;
  word = full_word set_bytes begins.table begins.names;
  rest = begins.rest;
  is_word = record {
    each = begins.are.each;
    few_sets = begins.are.few_sets;
    few = begins.are.few;
    names = begins.names;
    named = begins.are.named;
    spelled = refl;
  };
  spelled = begins.spelled;
  ends = begins.ends;
}

pub no-long : (out : Extent) (ins : List Extent) (bytes : List ℕ) (at : ℕ) → NoFullBegins set_bytes out ins bytes at
    → NoRegionsBegin out ins bytes at
no-long out ins bytes at none next regions begins =
    none next regions (begins-long out ins bytes at next regions begins)

-- no table begins
pub no-full-table : (spell : Cells → List ℕ) (out : Extent) (ins : List Extent) (bytes : List ℕ) (at : ℕ)
    → NoneAt (AreFew (IsListed out ins)) (counted (listed_by spell)) bytes at → NoFullBegins spell out ins bytes at
no-full-table spell out ins bytes at none next regions begins =
    none begins.table (rows_bytes begins.names ++ begins.rest) (begins.are.each, begins.are.few_sets)
    (begins.spelled
    ∙ append_assoc (counted (listed_by spell) begins.table) (rows_bytes begins.names) begins.rest)

-- a table that was read is that of any store that begins there
full-parts : (spell : Cells → List ℕ) → AreKnownBy spell → (out : Extent) (ins : List Extent) (bytes : List ℕ)
    (at place next : ℕ) (table : List Listed) (regions : List Pairing) → All (λ e. is_extent e ≡ true) (out ∷ ins)
    → AreFew (IsListed out ins) table → IsAt bytes at place (counted (listed_by spell) table)
    → (begins : BeginsFull spell out ins bytes at next regions)
    → (table ≡ begins.table) × (drop place bytes ≡ rows_bytes begins.names ++ begins.rest)
full-parts spell known out ins bytes at place next table regions right listed read begins =
    first-read (AreFew (IsListed out ins)) (counted (listed_by spell))
    (counted-free (IsListed out ins) (listed_by spell) (listed-known spell known out ins right)) bytes at place table
    begins.table (rows_bytes begins.names) begins.rest listed read (begins.are.each, begins.are.few_sets) begins.spelled

-- a table begins, and no names behind it
pub no-full-rows : (spell : Cells → List ℕ) → AreKnownBy spell → (out : Extent) (ins : List Extent) (bytes : List ℕ)
    (at place : ℕ) (table : List Listed) → All (λ e. is_extent e ≡ true) (out ∷ ins)
    → AreFew (IsListed out ins) table → IsAt bytes at place (counted (listed_by spell) table)
    → NoneAt (AreRowsOf (length ins + 1)) rows_bytes bytes place → NoFullBegins spell out ins bytes at
no-full-rows spell known out ins bytes at place table right listed read none next regions begins =
    let parts = full-parts spell known out ins bytes at place next table regions right listed read begins in
    none begins.names begins.rest
    (names-rows begins.table (length ins) begins.names regions begins.are.named begins.are.few) parts.1

-- what a store is of whose table and block were read
abbrev pub IsReadAs : Extent → List Extent → List Listed → List ℕ → List Pairing → Type 0
IsReadAs out ins table block regions =
    (names : List (List ℕ)) × AreFullParts out ins table names regions × (block ≡ rows_bytes names)

pub full-read : (spell : Cells → List ℕ) → AreKnownBy spell → (out : Extent) (ins : List Extent) (bytes : List ℕ)
    (at place end next : ℕ) (table : List Listed) (block : List ℕ) (regions : List Pairing)
    → All (λ e. is_extent e ≡ true) (out ∷ ins) → AreFew (IsListed out ins) table
    → IsAt bytes at place (counted (listed_by spell) table) → IsBlock (length ins + 1) block
    → IsAt bytes place end block → BeginsFull spell out ins bytes at next regions
    → IsReadAs out ins table block regions
full-read spell known out ins bytes at place end next table block regions right listed read is there begins =
    let parts = full-parts spell known out ins bytes at place next table regions right listed read begins in
    let rows = names-rows begins.table (length ins) begins.names regions begins.are.named begins.are.few in (
      begins.names,
      subst (λ (t : List Listed). AreFullParts out ins t begins.names regions) (sym parts.0) begins.are,
      block-rows (length ins + 1) block begins.names (drop end bytes) begins.rest is rows
          (sym there.spelled ∙ parts.1),
    )

-- and it was spelled again
pub respells-full : (read written : Cells → List ℕ) (out : Extent) (ins : List Extent) (bytes : List ℕ)
    (at place end : ℕ) (table : List Listed) (block : List ℕ) (regions : List Pairing) (old mid new : List ℕ)
    → IsAt bytes at place (counted (listed_by read) table) → IsAt bytes place end block
    → mid ≡ old ++ counted (listed_by written) table → new ≡ mid ++ block → IsReadAs out ins table block regions
    → RespellsFull read written out ins bytes at end old new
respells-full read written out ins bytes at place end table block regions old mid new first there one two is = record {
  table = table;
  names = is.0;
  regions = regions;
  are = is.1;
  read = at-both bytes at place end (counted (listed_by read) table) (rows_bytes is.0) first
      (subst (IsAt bytes place end) is.2 there);
  written = two ∙ ap (λ (w : List ℕ). w ++ block) one ∙ append_assoc old (counted (listed_by written) table) block
      ∙ ap (λ (w : List ℕ). old ++ (counted (listed_by written) table ++ w)) is.2;
}

-- ---- what was written

-- where two words stand that were appended one behind the other
pub written-first : (old word more new : List ℕ) → new ≡ (old ++ word) ++ more
    → IsAt new (length old) (length old + length word) word
written-first old word more new is =
    let start : drop (length old) new ≡ word ++ more = ap (drop (length old)) (is ∙ append_assoc old word more)
    ∙ drop-append_seam old (word ++ more) in
    record {
      spelled = start ∙ ap (λ (w : List ℕ). word ++ w) (sym (ends-word (length old) new word more start));
      within = omega (arith, ap length is, length-append (old ++ word) more, length-append old word);
    }

pub written-second : (old word more new : List ℕ) → new ≡ (old ++ word) ++ more
    → IsAt new (length old + length word) (length new) more
written-second old word more new is =
    let start : drop (length old) new ≡ word ++ more = ap (drop (length old)) (is ∙ append_assoc old word more)
    ∙ drop-append_seam old (word ++ more) in
    let behind : drop (length old + length word) new ≡ more = ends-word (length old) new word more start in
    let far : length old + length word + length more ≡ length new =
    omega (arith, ap length is, length-append (old ++ word) more, length-append old word) in
    let none : drop (length old + length word + length more) new ≡ [] =
    ends-word (length old + length word) new more [] (behind ∙ sym (append-nil more)) in
    record {
      spelled = behind ∙ sym (append-nil more) ∙ ap (λ (w : List ℕ). more ++ w) (sym none
          ∙ ap (λ (k : ℕ). drop k new) far);
      within = omega arith;
    }

-- where what was written begins no store, nothing that could be spelled so began
pub no-short-judged : (out : Extent) (ins : List Extent) (bytes : List ℕ) (at place end : ℕ) (table : List Listed)
    (block : List ℕ) (old mid new : List ℕ) → All (λ e. is_extent e ≡ true) (out ∷ ins)
    → AreFew (IsListed out ins) table → IsAt bytes at place (counted (listed_by short_set_bytes) table)
    → IsBlock (length ins + 1) block → IsAt bytes place end block
    → mid ≡ old ++ counted (listed_by set_bytes) table → new ≡ mid ++ block
    → NoRegionsBegin out ins new (length old) → NoFullBegins short_set_bytes out ins bytes at
no-short-judged out ins bytes at place end table block old mid new right listed read is there one two none next
    regions begins =
    let all : new ≡ (old ++ counted (listed_by set_bytes) table) ++ block = two ∙ ap (λ (w : List ℕ). w ++ block) one in
    let word = counted (listed_by set_bytes) table in
    let found = full-read short_set_bytes short-known out ins bytes at place end next table block regions right listed
    read is there begins in
    none (length new) regions (long-begins out ins new (length old) (length new) regions
    (full-begins set_bytes out ins new (length old) (length new) table found.0 regions found.1
    (at-both new (length old) (length old + length word) (length new) word (rows_bytes found.0)
    (written-first old word block new all)
    (subst (IsAt new (length old + length word) (length new)) found.2 (written-second old word block new all)))))

-- and where it begins one, it is that store
pub short-judged : (out : Extent) (ins : List Extent) (bytes : List ℕ) (at place end next : ℕ) (table : List Listed)
    (block : List ℕ) (regions : List Pairing) (old mid new : List ℕ) → All (λ e. is_extent e ≡ true) (out ∷ ins)
    → AreFew (IsListed out ins) table → IsAt bytes at place (counted (listed_by short_set_bytes) table)
    → IsBlock (length ins + 1) block → IsAt bytes place end block
    → mid ≡ old ++ counted (listed_by set_bytes) table → new ≡ mid ++ block
    → BeginsRegions out ins new (length old) next regions
    → RespellsFull short_set_bytes set_bytes out ins bytes at end old new
short-judged out ins bytes at place end next table block regions old mid new right listed read is there one two
    begins =
    let word = counted (listed_by set_bytes) table in
    let all : new ≡ (old ++ word) ++ block = two ∙ ap (λ (w : List ℕ). w ++ block) one in
    respells-full short_set_bytes set_bytes out ins bytes at place end table block regions old mid new read there one
    two
    (full-read set_bytes long-known out ins new (length old) (length old + length word) (length new) next table block
    regions right listed (written-first old word block new all) is (written-second old word block new all)
    (begins-long out ins new (length old) next regions begins))

-- a store that begins is that of the parts that were read
pub long-judged : (out : Extent) (ins : List Extent) (bytes : List ℕ) (at place end next : ℕ) (table : List Listed)
    (block : List ℕ) (regions : List Pairing) (old mid new : List ℕ) → All (λ e. is_extent e ≡ true) (out ∷ ins)
    → AreFew (IsListed out ins) table → IsAt bytes at place (counted (listed_by set_bytes) table)
    → IsBlock (length ins + 1) block → IsAt bytes place end block
    → mid ≡ old ++ counted (listed_by short_set_bytes) table → new ≡ mid ++ block
    → BeginsRegions out ins bytes at next regions
    → RespellsFull set_bytes short_set_bytes out ins bytes at end old new
long-judged out ins bytes at place end next table block regions old mid new right listed read is there one two
    begins =
    respells-full set_bytes short_set_bytes out ins bytes at place end table block regions old mid new read there one
    two
    (full-read set_bytes long-known out ins bytes at place end next table block regions right listed read is there
    (begins-long out ins bytes at next regions begins))
