-- The key idea: the tables keep the sets and payloads that have numbers, so the rows that were there name the entries
-- that they named, and the new row names the one handed in.
use Rattle.std.proofs.Common.{◌≡◌, ℕ, ◌+◌, ◌^◌, ◌<◌, ◌≤◌, List, [], ◌∷◌, ◌++◌, Some, map, length, get_or}
use Rattle.std.proofs.Common.{refl, sym, ap, ◌∙◌, arith, All, take}
use Rattle.std.specs.List.{slice_get, flat_map}
use Rattle.std.proofs.lemmas.Option.{slice_get_within, slice_get-get_or, unwrap_or-slice_get}
use Rattle.std.proofs.lemmas.List.{map-append, length-map, take_more, flat_map_more, map-id}
use Rattle.std.proofs.lemmas.Simd.{map-map}
use Rattle.std.proofs.lemmas.List.Elements.{All-weaker, All-map}
use Rattle.std.proofs.lemmas.List.Folds.{flat_map-map}
use Rattle.sz_spec.proofs.FlowOutputs.{slice_get-left, map-agree}
use Rattle.sz_spec.specs.Values.{no_extent}
use Rattle.sz_cells.specs.Extent.{Extent}
use Rattle.sz_cells.specs.Cells.{Cells, no_cells}
use Rattle.sz_cells.specs.SetBytes.{IsSetOf, set_bytes}
use Rattle.sz_frame.specs.Parts.{Entry}
use Rattle.sz_frame.specs.Fits.{AreApart}
use Rattle.sz_region.specs.Counted.{counted, rows_bytes}
use Rattle.sz_region.specs.PayBytes.{IsShort, IsPayWord, AreNamesOfEntry, payload_bytes}
use Rattle.sz_region.specs.Putting.{AreRows}
use Rattle.sz_region.specs.FullBytes.{Listed}
use Rattle.sz_tables.specs.declared.entry_table.EntryRow.{EntryRow}
use Rattle.sz_tables.specs.Tables.{SetsByNumber, HasAtMostOneMore}
use Rattle.sz_tables.specs.Payloads.{PayloadsByNumber, payload_at}
use Rattle.sz_tables.specs.Rows.{Takes}
use Rattle.sz_tables.specs.Entries.{NamesBoth, AreEntriesSound, entry_named, numbers_of}
use Rattle.sz_tables.specs.Listing.{listed_as}
use Rattle.sz_tables.proofs.Taking.{more-keeps}
use Rattle.sz_tables.proofs.Rows.{set-kept}
use Rattle.sz_tables.proofs.Words.{all-zipped}

-- ---- one entry more

-- a table of payloads takes a payload, to which it gives this number
pub record TakesPayload (old new : PayloadsByNumber) (payload : List ℕ) (n : ℕ) : Type 0 where
  pub number : slice_get new.payloads n ≡ Some payload
  pub payloads : HasAtMostOneMore old.payloads new.payloads payload
  pub room : old.spare_payloads ≤ new.spare_payloads + 1
  pub bytes : old.spare_bytes ≤ new.spare_bytes + length payload

-- the tables take the set and the payload of an entry, and the row has their numbers
pub record AddsEntry (sets sets' : SetsByNumber) (payloads payloads' : PayloadsByNumber) (e : Entry) (row : EntryRow)
    : Type 0 where
  pub set : Takes sets sets' e.out row.set
  pub payload : TakesPayload payloads payloads' e.payload row.payload

-- a payload whose number is kept
payload-kept : (old new : List (List ℕ)) (n : ℕ) → n < length old
    → ((m : ℕ) (p : List ℕ) → slice_get old m ≡ Some p → slice_get new m ≡ Some p)
    → payload_at new n ≡ payload_at old n
payload-kept old new n inside keeps =
    let here = slice_get-get_or old n [] inside in
    rw (keeps n _ here, here) refl

module _ (sets sets' : SetsByNumber) (payloads payloads' : PayloadsByNumber) (e : Entry) (row : EntryRow)
    (rows : List EntryRow) (more runs bytes capacity : ℕ) (adds : AddsEntry sets sets' payloads payloads' e row)
    (sound : AreEntriesSound sets payloads rows more runs bytes capacity) where
  -- sets and payloads keep their numbers
  pub sets-kept : (n : ℕ) (s : Cells) → slice_get sets.sets n ≡ Some s → slice_get sets'.sets n ≡ Some s
  sets-kept = more-keeps sets.sets sets'.sets e.out adds.set.sets

  pub payloads-kept : (n : ℕ) (p : List ℕ) → slice_get payloads.payloads n ≡ Some p
      → slice_get payloads'.payloads n ≡ Some p
  payloads-kept = more-keeps payloads.payloads payloads'.payloads e.payload adds.payload.payloads

  -- and rows theirs
  pub rows-kept : (n : ℕ) (r : EntryRow) → slice_get rows n ≡ Some r → slice_get (rows ++ row ∷ []) n ≡ Some r
  rows-kept n r here = slice_get-left rows (row ∷ []) n (slice_get_within rows n r here) ∙ here

  -- a row that names a set and a payload names the same entry still
  entry-kept : (r : EntryRow) → NamesBoth sets.sets payloads.payloads r
      → entry_named sets'.sets payloads'.payloads r ≡ entry_named sets.sets payloads.payloads r
  entry-kept r names =
      rw (
        set-kept sets.sets sets'.sets r.set names.set sets-kept,
        payload-kept payloads.payloads payloads'.payloads r.payload names.payload payloads-kept,
      ) refl

  -- the entries are those before, and the one handed in
  pub entries-added : map (entry_named sets'.sets payloads'.payloads) (rows ++ row ∷ [])
      ≡ map (entry_named sets.sets payloads.payloads) rows ++ e ∷ []
  entries-added =
      let before : map (entry_named sets'.sets payloads'.payloads) rows
      ≡ map (entry_named sets.sets payloads.payloads) rows =
      map-agree (entry_named sets'.sets payloads'.payloads) (entry_named sets.sets payloads.payloads) rows
      (All-weaker (NamesBoth sets.sets payloads.payloads) _ entry-kept rows sound.named) in
      rw (
        map-append (entry_named sets'.sets payloads'.payloads) rows (row ∷ []),
        before,
        adds.set.number,
        adds.payload.number,
      ) refl

-- ---- lists that are made one by one

-- the payloads before a place, and one more
pub payloads-more : (ps : List (List ℕ)) (n : ℕ) → n < length ps → take (n + 1) ps ≡ take n ps ++ payload_at ps n ∷ []
payloads-more ps n inside =
    take_more ps n [] inside
    ∙ ap (λ (p : List ℕ). take n ps ++ p ∷ []) (sym (unwrap_or-slice_get ps n []))

-- the numbers of the rows before a place, and of one more
pub numbers-more : (rows : List EntryRow) (n : ℕ) (d : EntryRow) → n < length rows
    → flat_map numbers_of (take (n + 1) rows)
    ≡ flat_map numbers_of (take n rows) ++ (get_or rows n d).set ∷ (get_or rows n d).payload ∷ []
numbers-more rows n d inside =
    ap (λ (rs : List EntryRow). flat_map numbers_of rs) (take_more rows n d inside)
    ∙ sym (flat_map_more numbers_of [] (take n rows) (get_or rows n d))

-- the sets that are listed for one array
pub sets-listed : (array : ℕ) (sets : List Cells) → map (λ (l : Listed). l.set) (listed_as array sets) ≡ sets
sets-listed array sets =
    map-map (λ (l : Listed). l.set) (λ (s : Cells). record { array = array; set = s }) sets ∙ map-id sets

-- ---- the bytes

-- the numbers of the rows, one row after the other
pub entries-rows : (rows : List EntryRow) → AreRows 2 (flat_map numbers_of rows) (map numbers_of rows)
entries-rows rows = record {
  wide = All-map (λ (row : List ℕ). length row ≡ 2) numbers_of rows (λ k d h. refl);
  flat = flat_map-map (λ (row : List ℕ). row) numbers_of rows;
}

-- the numbers of a row are those of its entry's set and payload
pub names-are : (sets : List Cells) (payloads : List (List ℕ)) (row : EntryRow) → NamesBoth sets payloads row
    → AreNamesOfEntry sets payloads (numbers_of row) (entry_named sets payloads row)
names-are sets payloads row is =
    let none = no_cells no_extent in (
      slice_get-get_or sets row.set none is.set
          ∙ ap (λ (s : Cells). Some s) (sym (unwrap_or-slice_get sets row.set none)),
      slice_get-get_or payloads row.payload [] is.payload
          ∙ ap (λ (p : List ℕ). Some p) (sym (unwrap_or-slice_get payloads row.payload [])),
    )

-- the sets, the payloads and the rows spell the entries
pub entries-word : (out : Extent) (sets : List Cells) (payloads : List (List ℕ)) (rows : List EntryRow)
    → All (NamesBoth sets payloads) rows → length rows ≤ 2 ^ 30 → length sets ≤ length rows
    → length payloads ≤ length rows → All IsShort payloads → All (IsSetOf out) sets
    → AreApart (map (entry_named sets payloads) rows)
    → IsPayWord out payloads sets (map (entry_named sets payloads) rows)
    (counted payload_bytes payloads ++ counted set_bytes sets ++ rows_bytes (map numbers_of rows))
entries-word out sets payloads rows named few few_sets few_payloads short each apart = record {
  short = short;
  few_payloads = omega arith;
  each = each;
  few_sets = omega arith;
  few = omega (arith, length-map rows (entry_named sets payloads));
  apart = apart;
  names = map numbers_of rows;
  named =
      all-zipped (AreNamesOfEntry sets payloads) numbers_of (entry_named sets payloads) rows
      (All-weaker (NamesBoth sets payloads)
      (λ (row : EntryRow). AreNamesOfEntry sets payloads (numbers_of row) (entry_named sets payloads row))
      (names-are sets payloads) rows named);
  spelled = refl;
}
