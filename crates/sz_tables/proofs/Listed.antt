-- The key idea: a listed set or payload stands in its table under its number, and none loses its number. So the names
-- of an entry lead to the numbers of a row that spells the entry of the listed set and payload.
use Rattle.std.proofs.Common.{◌≡◌, ℕ, ◌+◌, ◌^◌, ◌<◌, ◌≤◌, List, [], ◌∷◌, ◌++◌, Some, Option, map, length, drop}
use Rattle.std.proofs.Common.{get_or, unwrap_or, refl, sym, ap, subst, ◌∙◌, inl, inr, arith}
use Rattle.std.specs.List.{All, AllZip, slice_get, flat_map}
use Rattle.std.proofs.lemmas.List.{length-map, get_or-map}
use Rattle.std.proofs.lemmas.List.Elements.{All-push, All-weaker}
use Rattle.std.proofs.lemmas.Option.{slice_get_within, get_or_from_slice_get}
use Rattle.sz_cells.specs.Cells.{Cells, no_cells}
use Rattle.sz_cells.specs.Extent.{Extent}
use Rattle.sz_cells.specs.SetBytes.{four_bytes, set_bytes, IsSetOf}
use Rattle.sz_spec.specs.Values.{no_extent}
use Rattle.sz_spec.proofs.FlowOutputs.{slice_get-left, slice_get-seam}
use Rattle.sz_frame.specs.Parts.{Entry}
use Rattle.sz_frame.specs.Fits.{AreApart}
use Rattle.sz_region.specs.Counted.{counted, rows_bytes, IsAt}
use Rattle.sz_region.specs.PayBytes.{AreNamesOfEntry, BeginsEntries, IsShort, payload_bytes}
use Rattle.sz_region.specs.Stores.{AreEntriesNames, AreEntryNames, AreFew, NoneAt}
use Rattle.sz_region.proofs.Names.{zip-some}
use Rattle.sz_region.proofs.Numbering.{zip-append, zip-length}
use Rattle.sz_region.proofs.PayStores.{entry-names-free}
use Rattle.sz_region.proofs.Spans.{IsSmall, at-both, no-list, number-read}
use Rattle.sz_tables.specs.Tables.{SetsByNumber, HasAtMostOneMore}
use Rattle.sz_tables.specs.Payloads.{PayloadsByNumber}
use Rattle.sz_tables.specs.Rows.{set_at}
use Rattle.sz_tables.specs.Entries.{EntryRows, NamesBoth, entries, entry_named, table_with}
use Rattle.sz_tables.specs.Listed.{AreNamesOfRow, BeginsTable, HasNumber, IsOneOf, IsRead}
use Rattle.sz_tables.specs.declared.entry_table.EntryRow.{EntryRow}
use Rattle.sz_tables.proofs.Payloads.{payload-read}
use Rattle.sz_tables.proofs.Taking.{more-keeps}
use Rattle.sz_tables.proofs.Placing.{zip-at, zip-map, zip-right, zip-weaker}
use Rattle.sz_tables.proofs.Entries.{names-are}

-- ---- one more that is listed

-- it has the number that it was given, and the others keep theirs
pub numbered-more : {X : Type 0} (old new : List X) (ns : List ℕ) (xs : List X) (x : X) (n : ℕ)
    → HasAtMostOneMore old new x → slice_get new n ≡ Some x → AllZip (HasNumber old) ns xs
    → AllZip (HasNumber new) (ns ++ n ∷ []) (xs ++ x ∷ [])
numbered-more {X} old new ns xs x n more number was =
    zip-append (HasNumber new) ns (n ∷ []) xs (x ∷ [])
    (zip-weaker (HasNumber old) (HasNumber new) ns xs (λ (k : ℕ) (y : X) here. more-keeps old new x more k y here) was)
    (number, tt)

-- and each that is kept is one of those that are listed
pub listed-more : {X : Type 0} (old new xs : List X) (x : X) → HasAtMostOneMore old new x → All (IsOneOf xs) old
    → All (IsOneOf (xs ++ x ∷ [])) new
listed-more {X} old new xs x more was =
    let before : All (IsOneOf (xs ++ x ∷ [])) old =
    All-weaker (IsOneOf xs) (IsOneOf (xs ++ x ∷ []))
    (λ (y : X) at. (at.0, slice_get-left xs (x ∷ []) at.0 (slice_get_within xs at.0 y at.1) ∙ at.1)) old was in
    elim more [
      | inl same ↦ subst (All (IsOneOf (xs ++ x ∷ []))) (sym same) before
      | inr one ↦ subst (All (IsOneOf (xs ++ x ∷ []))) (sym one)
          (All-push (IsOneOf (xs ++ x ∷ [])) old x before (length xs, slice_get-seam xs x [] (length xs) refl))
    ]

-- ---- names and rows

-- the set of a row's number
set-of : (all : List Cells) (k : ℕ) (s : Cells) → slice_get all k ≡ Some s → set_at all k ≡ s
set-of all k s here = ap (λ (o : Option Cells). unwrap_or o (no_cells no_extent)) here

-- the names of a row are those of its entry
row-names : (all own : List Cells) (kept listed : List (List ℕ)) (outs bodies : List ℕ)
    → AllZip (HasNumber all) outs own → AllZip (HasNumber kept) bodies listed → (ns : List ℕ) (row : EntryRow)
    → AreNamesOfRow outs bodies ns row → AreNamesOfEntry own listed ns (entry_named all kept row)
row-names all own kept listed outs bodies sets payloads [] row are = elim are [ ]
row-names all own kept listed outs bodies sets payloads (s ∷ []) row are = elim are [ ]
row-names all own kept listed outs bodies sets payloads (s ∷ p ∷ []) row are =
    let set = zip-at (HasNumber all) outs own s row.set sets are.0 in
    let payload = zip-at (HasNumber kept) bodies listed p row.payload payloads are.1 in (
      set.1 ∙ ap (λ (x : Cells). Some x) (sym (set-of all row.set set.0 set.2)),
      payload.1 ∙ ap (λ (x : List ℕ). Some x) (sym (payload-read kept row.payload payload.0 payload.2)),
    )
row-names all own kept listed outs bodies sets payloads (s ∷ p ∷ n ∷ ns) row are = elim are [ ]

-- and it names a set and a payload that are there
row-inside : (all own : List Cells) (kept listed : List (List ℕ)) (outs bodies : List ℕ)
    → AllZip (HasNumber all) outs own → AllZip (HasNumber kept) bodies listed → (ns : List ℕ) (row : EntryRow)
    → AreNamesOfRow outs bodies ns row → NamesBoth all kept row
row-inside all own kept listed outs bodies sets payloads [] row are = elim are [ ]
row-inside all own kept listed outs bodies sets payloads (s ∷ []) row are = elim are [ ]
row-inside all own kept listed outs bodies sets payloads (s ∷ p ∷ []) row are =
    let set = zip-at (HasNumber all) outs own s row.set sets are.0 in
    let payload = zip-at (HasNumber kept) bodies listed p row.payload payloads are.1 in
    record {
      set = slice_get_within all row.set set.0 set.2;
      payload = slice_get_within kept row.payload payload.0 payload.2;
    }
row-inside all own kept listed outs bodies sets payloads (s ∷ p ∷ n ∷ ns) row are = elim are [ ]

pub rows-inside : (all own : List Cells) (kept listed : List (List ℕ)) (outs bodies : List ℕ) (names : List (List ℕ))
    (rows : List EntryRow) → AllZip (HasNumber all) outs own → AllZip (HasNumber kept) bodies listed
    → AllZip (AreNamesOfRow outs bodies) names rows → All (NamesBoth all kept) rows
rows-inside all own kept listed outs bodies names rows sets payloads named =
    zip-right (AreNamesOfRow outs bodies) (NamesBoth all kept) names rows
    (row-inside all own kept listed outs bodies sets payloads) named

-- ---- what is read

-- payloads, sets and rows that were read are a table's
pub is-read : (out : Extent) (bytes : List ℕ) (at first second next : ℕ) (sets : SetsByNumber)
    (payloads : PayloadsByNumber) (rows : List EntryRow) (capacities outs bodies : List ℕ) (own : List Cells)
    (listed names : List (List ℕ)) → AreFew IsShort listed → IsAt bytes at first (counted payload_bytes listed)
    → AllZip (HasNumber payloads.payloads) bodies listed → All (IsOneOf listed) payloads.payloads
    → AreFew (IsSetOf out) own → IsAt bytes first second (counted set_bytes own)
    → AllZip (HasNumber sets.sets) outs own → AllZip (AreNamesOfRow outs bodies) names rows → length rows ≤ 2 ^ 30
    → IsAt bytes second next (rows_bytes names)
    → IsRead out bytes at next (record (table_with sets payloads rows) { capacities = capacities })
is-read out bytes at first second next sets payloads rows capacities outs bodies own listed names short a numbered
    each_listed each b placed named few c = record {
      listed = listed;
      sets = own;
      names = names;
      first = first;
      second = second;
      short = short;
      listed_at = a;
      each = each;
      sets_at = b;
      named =
          zip-map (AreNamesOfRow outs bodies) (AreNamesOfEntry own listed) (entry_named sets.sets payloads.payloads)
          names rows (row-names sets.sets own payloads.payloads listed outs bodies placed numbered) named;
      few = omega (arith, few, zip-length (AreNamesOfRow outs bodies) names rows named);
      names_at = c;
      payloads = each_listed;
    }

-- where its entries are apart, a store of them begins
pub read-begins : (out : Extent) (bytes : List ℕ) (at next : ℕ) (t : EntryRows) → IsRead out bytes at next t
    → AreApart (entries t) → BeginsTable out bytes at next t
read-begins out bytes at next t r apart = record {
  begins = record {
    payloads = r.listed;
    sets = r.sets;
    word = counted payload_bytes r.listed ++ counted set_bytes r.sets ++ rows_bytes r.names;
    rest = drop next bytes;
    is_word = record {
      short = r.short.0;
      few_payloads = r.short.1;
      each = r.each.0;
      few_sets = r.each.1;
      few = omega (arith, r.few, zip-length (AreNamesOfEntry r.sets r.listed) r.names (entries t) r.named);
      apart = apart;
      names = r.names;
      named = r.named;
      spelled = refl;
    };
    spelled =
        (at-both bytes at r.second next (counted payload_bytes r.listed ++ counted set_bytes r.sets)
        (rows_bytes r.names) (at-both bytes at r.first r.second (counted payload_bytes r.listed)
        (counted set_bytes r.sets) r.listed_at r.sets_at) r.names_at).spelled;
    ends = refl;
  };
  payloads = r.payloads;
}

-- ---- payloads of entries

payload-listed : (sets : List Cells) (payloads : List (List ℕ)) (ns : List ℕ) (e : Entry)
    → AreNamesOfEntry sets payloads ns e → IsOneOf payloads e.payload
payload-listed sets payloads [] e are = elim are [ ]
payload-listed sets payloads (s ∷ []) e are = elim are [ ]
payload-listed sets payloads (s ∷ p ∷ []) e are = (p, are.1)
payload-listed sets payloads (s ∷ p ∷ n ∷ ns) e are = elim are [ ]

-- one of the payloads of entries is one of those that they name
payload-named : (payloads : List (List ℕ)) (es : List Entry) (p : List ℕ) → All (λ e. IsOneOf payloads e.payload) es
    → IsOneOf (map (λ (e : Entry). e.payload) es) p → IsOneOf payloads p
payload-named payloads es p named at =
    let d : Entry = record { out = no_cells no_extent; payload = [] } in
    let f : Entry → List ℕ = λ e. e.payload in
    let inside : at.0 < length es = omega (arith, slice_get_within (map f es) at.0 p at.1, length-map es f) in
    let is : (get_or es at.0 d).payload ≡ p =
    sym (get_or-map f es at.0 d p inside) ∙ get_or_from_slice_get (map f es) at.0 p p at.1 in
    subst (IsOneOf payloads) is (named at.0 d inside)

-- a table of entries that were read, with their payloads alone
pub named-begins : (out : Extent) (bytes : List ℕ) (at next : ℕ) (t : EntryRows) (es : List Entry) → entries t ≡ es
    → BeginsEntries out bytes at next es → All (IsOneOf (map (λ (e : Entry). e.payload) es)) t.payloads
    → BeginsTable out bytes at next t
named-begins out bytes at next t es same begins own =
    let named : All (λ e. IsOneOf begins.payloads e.payload) es =
    zip-right (AreNamesOfEntry begins.sets begins.payloads) (λ e. IsOneOf begins.payloads e.payload)
    begins.is_word.names es (payload-listed begins.sets begins.payloads) begins.is_word.named in
    let listed : All (IsOneOf begins.payloads) t.payloads =
    All-weaker (IsOneOf (map (λ (e : Entry). e.payload) es)) (IsOneOf begins.payloads)
    (λ p at. payload-named begins.payloads es p named at) t.payloads own in
    let both = subst (λ (xs : List Entry). (b : BeginsEntries out bytes at next xs)
    × All (IsOneOf b.payloads) t.payloads) (sym same) (begins, listed) in
    record { begins = both.0; payloads = both.1 }

-- ---- where none begins

-- the names of rows are those of entries, by any tables of so many
row-some : (sets : List Cells) (payloads : List (List ℕ)) (outs bodies : List ℕ) → length sets ≡ length outs
    → length payloads ≡ length bodies → (ns : List ℕ) (row : EntryRow) → AreNamesOfRow outs bodies ns row
    → AreEntryNames sets payloads ns
row-some sets payloads outs bodies long too [] row are = elim are [ ]
row-some sets payloads outs bodies long too (s ∷ []) row are = elim are [ ]
row-some sets payloads outs bodies long too (s ∷ p ∷ []) row are =
    let other : EntryRow = record { set = s; payload = p } in (
      entry_named sets payloads other,
      names-are sets payloads other (record {
        set = omega (arith, slice_get_within outs s row.set are.0, long);
        payload = omega (arith, slice_get_within bodies p row.payload are.1, too);
      }),
    )
row-some sets payloads outs bodies long too (s ∷ p ∷ n ∷ ns) row are = elim are [ ]

-- the next row is not there
pub no-rows : (sets : List Cells) (payloads : List (List ℕ)) (outs bodies bytes : List ℕ) (at count place : ℕ)
    (names : List (List ℕ)) (rows : List EntryRow) → length sets ≡ length outs → length payloads ≡ length bodies
    → length outs < 2 ^ 32 → length bodies < 2 ^ 32 → IsAt bytes at (at + 4) (four_bytes count) → IsSmall count
    → AllZip (AreNamesOfRow outs bodies) names rows → length rows < count
    → IsAt bytes (at + 4) place (flat_map (flat_map four_bytes) names)
    → NoneAt (AreEntryNames sets payloads) (flat_map four_bytes) bytes place
    → NoneAt (AreEntriesNames sets payloads) rows_bytes bytes at
no-rows sets payloads outs bodies bytes at count place names rows long too few less number small named short read none
    all rest is spelled =
    let count_is = number-read bytes at count (length all) (flat_map (flat_map four_bytes) all ++ rest) number small
    (omega (arith, is.1)) spelled in
    let some : All (AreEntryNames sets payloads) names =
    All-weaker (λ (ns : List ℕ). (row : EntryRow) × AreNamesOfRow outs bodies ns row) (AreEntryNames sets payloads)
    (λ ns one. row-some sets payloads outs bodies long too ns one.0 one.1) names
    (zip-some (AreNamesOfRow outs bodies) names rows named) in
    no-list (AreEntryNames sets payloads) (flat_map four_bytes)
    (entry-names-free sets payloads (omega (arith, long, few)) (omega (arith, too, less))) bytes (at + 4) place names
    all rest some read none is.0
    (omega (arith, count_is.0, short, zip-length (AreNamesOfRow outs bodies) names rows named)) count_is.1
