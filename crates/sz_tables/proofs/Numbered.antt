-- How sets stay numbered where one is added, and what the set of a number is.
--
-- The key idea: the runs of a further set stand behind all others, so each old span gives the runs that it gave, and
-- the new one gives those that were added.
use Rattle.std.proofs.Common.{◌≡◌, ◌≢◌, ℕ, zero, suc, ◌+◌, ◌%◌, ◌<◌, ◌≤◌, List, [], ◌∷◌, ◌++◌, length, map, get_or}
use Rattle.std.proofs.Common.{slice_range, sym, ap, ap₂, subst, ◌∙◌, inl, inr, arith}
use Rattle.std.proofs.Common.{Option, Some, None, unwrap_or}
use Rattle.std.specs.List.{slice_get, HoldsAt, flat_map}
use Rattle.std.specs.Option.{IfSome}
use Rattle.std.proofs.lemmas.List.{map-append, length-map, get_or-map}
use Rattle.std.proofs.lemmas.Option.{slice_get_within, slice_get-get_or, unwrap_or-slice_get}
use Rattle.std.proofs.lemmas.Option.{get_or_from_slice_get}
use Rattle.std.proofs.lemmas.Bool.{cases_lt}
use Rattle.std.proofs.lemmas.List.Elements.{All-push, All-weaker}
use Rattle.sz_spec.specs.Values.{no_extent}
use Rattle.sz_cells.specs.declared.Run.{Run}
use Rattle.sz_cells.specs.Extent.{Extent, size_of}
use Rattle.sz_cells.specs.Cells.{Cells, no_cells}
use Rattle.sz_cells.specs.Runs.{AreRunsFrom, runs_of, indexes_of}
use Rattle.sz_cells.proofs.Runs.{runs_of-spelled}
use Rattle.sz_tables.specs.declared.spans.Span.{Span}
use Rattle.sz_tables.specs.Filed.{Filed, Files, IsLastBelow, IsWidened}
use Rattle.sz_tables.specs.Rows.{set_at}
use Rattle.sz_tables.specs.Tables.{AreNumbered, spelled, runs_by_number, filed_by, mix_of, first_of, BeginUpTo}
use Rattle.sz_tables.specs.Tables.{slices_by_number}
use Rattle.sz_tables.proofs.Filing.{filed-push, filed-key, widened-keys, widened-filed}
use Rattle.sz_tables.proofs.Slices.{cut, cuts-push, within-push, different-push}

-- ---- one more set

-- sets are numbered where one more that is new stands behind them, under its key
pub numbered-push : (e : Extent) (runs more : List Run) (spans : List Span) (s : Span) (index after : Files)
    (key mix : ℕ) → AreNumbered e runs spans index → AreRunsFrom 0 (size_of e) more
    → ((n : ℕ) → slice_get (map (spelled e) (runs_by_number runs spans)) n ≢ Some (spelled e more))
    → s.start ≡ length runs → s.end ≡ length runs + length more
    → mix ≡ mix_of more → key ≡ mix % index.keys → after.keys ≡ index.keys
    → after.entries ≡ index.entries ++ record { key = key; item = mix } ∷ []
    → AreNumbered e (runs ++ more) (spans ++ s ∷ []) after
numbered-push e runs more spans s index after key mix was long new start end mixed under keys entries =
    let pieces = runs_by_number runs spans in
    let grown = cuts-push runs more spans s was.within start end in
    record {
      within = within-push runs more spans s was.within start end;
      longest = rw grown (All-push (AreRunsFrom 0 (size_of e)) pieces more was.longest long);
      different = rw (grown, map-append (spelled e) pieces (more ∷ []))
          (different-push (map (spelled e) pieces) (spelled e more) was.different new);
      keys = omega (arith, keys, was.keys);
      filed = rw grown (filed-push mix_of index after pieces more key mix was.filed mixed under keys entries);
    }

-- ---- the set of a number

-- there are as many sets as spans
pub sets-count : (e : Extent) (runs : List Run) (spans : List Span)
    → length (map (spelled e) (runs_by_number runs spans)) ≡ length spans
sets-count e runs spans = length-map (runs_by_number runs spans) (spelled e) ∙ length-map spans (cut runs)

-- a span gives the longest runs of the set of its number
abbrev pub IsSetAt : Extent → List Run → List Span → ℕ → Span → Type 0
IsSetAt e runs spans n s =
    (set_at (map (spelled e) (runs_by_number runs spans)) n ≡ spelled e (slice_range runs s.start s.end))
    × AreRunsFrom 0 (size_of e) (slice_range runs s.start s.end)

pub set-at : (e : Extent) (runs : List Run) (spans : List Span) (index : Files) (n : ℕ) (s : Span)
    → AreNumbered e runs spans index → n < length (map (spelled e) (runs_by_number runs spans))
    → s ≡ get_or spans n s → IsSetAt e runs spans n s
set-at e runs spans index n s was within read =
    let pieces = runs_by_number runs spans in
    let sets = map (spelled e) pieces in
    let none = no_cells no_extent in
    let many : n < length pieces = omega (arith, length-map pieces (spelled e)) in
    let inside : n < length spans = omega (arith, length-map spans (cut runs)) in
    let piece : get_or pieces n [] ≡ cut runs s =
    get_or-map (cut runs) spans n s [] inside ∙ ap (cut runs) (sym read) in (
      unwrap_or-slice_get sets n none ∙ get_or-map (spelled e) pieces n [] none many ∙ ap (spelled e) piece,
      subst (AreRunsFrom 0 (size_of e)) piece (was.longest n [] many),
    )

-- a set that runs spell has these longest runs
pub runs-met : (sets : List Cells) (n : ℕ) (e : Extent) (more : List Run) → AreRunsFrom 0 (size_of e) more
    → slice_get sets n ≡ Some (spelled e more) → runs_of (set_at sets n).indexes ≡ more
runs-met sets n e more long same =
    ap (λ (o : Option Cells). runs_of (unwrap_or o (no_cells no_extent)).indexes) same
    ∙ runs_of-spelled 0 (size_of e) more long

-- a set of this shape that runs spell
pub set-met : (sets : List Cells) (n : ℕ) (e : Extent) (more : List Run) → n < length sets
    → (set_at sets n).extent ≡ e → flat_map indexes_of more ≡ (set_at sets n).indexes
    → slice_get sets n ≡ Some (spelled e more)
set-met sets n e more within shape indexes =
    let none = no_cells no_extent in
    slice_get-get_or sets n none within
    ∙ ap (λ (x : Cells). Some x) (sym (unwrap_or-slice_get sets n none)
    ∙ ap₂ (λ (x : Extent) (xs : List ℕ). record { extent = x; indexes = xs }) shape (sym indexes))

-- ---- a walk over the entries of a key

-- one more than the number of an entry, and 0 where there is none
abbrev pub reach : Option ℕ → ℕ
reach None = 0
reach (Some n) = n + 1

-- an entry of the key below a number is within the reach of the last one there
pub last-reach : (es : List Filed) (key end : ℕ) (r : Option ℕ) (n : ℕ) → IsLastBelow es key end r
    → HoldsAt (λ e. e.key ≡ key) es n → n < end → n < reach r
last-reach es key end None n last has below =
    let d : Filed = record { key = 0; item = 0 } in
    absurd (last n d (omega arith) below (has d))
last-reach es key end (Some m) n last has below =
    let d : Filed = record { key = 0; item = 0 } in
    elim (cases_lt n (m + 1)) [
      | inl within ↦ within
      | inr behind ↦ absurd (last.2 n d behind below (has d))
    ]

pub last-filed : (es : List Filed) (key end : ℕ) (r : Option ℕ) → IsLastBelow es key end r
    → IfSome r (λ n. HoldsAt (λ e. e.key ≡ key) es n)
last-filed es key end None last = tt
last-filed es key end (Some m) last = last.1

-- each set has an entry
pub entries-count : (e : Extent) (runs : List Run) (spans : List Span) (index : Files)
    → AreNumbered e runs spans index → length index.entries ≡ length (map (spelled e) (runs_by_number runs spans))
entries-count e runs spans index was =
    let pieces = runs_by_number runs spans in
    ap length was.filed ∙ length-map pieces (filed_by index.keys) ∙ sym (length-map pieces (spelled e))

-- the set that runs spell has these runs
pub piece-at : (e : Extent) (runs more : List Run) (spans : List Span) (index : Files) (n : ℕ)
    → AreNumbered e runs spans index → AreRunsFrom 0 (size_of e) more
    → slice_get (map (spelled e) (runs_by_number runs spans)) n ≡ Some (spelled e more)
    → (n < length (runs_by_number runs spans)) × (get_or (runs_by_number runs spans) n [] ≡ more)
piece-at e runs more spans index n was long same =
    let pieces = runs_by_number runs spans in
    let sets = map (spelled e) pieces in
    let in_sets : n < length sets = slice_get_within sets n (spelled e more) same in
    let many : n < length pieces = omega (arith, length-map pieces (spelled e)) in
    let p = get_or pieces n [] in (
      many,
      sym (runs_of-spelled 0 (size_of e) p (was.longest n [] many))
          ∙ ap (λ (s : Cells). runs_of s.indexes) (sym (get_or-map (spelled e) pieces n [] (spelled e more) many)
          ∙ get_or_from_slice_get sets n (spelled e more) (spelled e more) same)
          ∙ runs_of-spelled 0 (size_of e) more long,
    )

-- and is filed under the rest of what these are mixed to
pub key-at : (e : Extent) (runs more : List Run) (spans : List Span) (index : Files) (key n : ℕ)
    → AreNumbered e runs spans index → AreRunsFrom 0 (size_of e) more → key ≡ mix_of more % index.keys
    → slice_get (map (spelled e) (runs_by_number runs spans)) n ≡ Some (spelled e more)
    → HoldsAt (λ f. f.key ≡ key) index.entries n × (n < length index.entries)
key-at e runs more spans index key n was long under same =
    let pieces = runs_by_number runs spans in
    let piece = piece-at e runs more spans index n was long same in
    filed-key mix_of index pieces n [] more key was.filed piece.0 piece.1 under

-- and its entry has what they are mixed to
pub item-at : (e : Extent) (runs more : List Run) (spans : List Span) (index : Files) (n : ℕ)
    → AreNumbered e runs spans index → AreRunsFrom 0 (size_of e) more
    → slice_get (map (spelled e) (runs_by_number runs spans)) n ≡ Some (spelled e more)
    → HoldsAt (λ f. f.item ≡ mix_of more) index.entries n
item-at e runs more spans index n was long same d =
    let pieces = runs_by_number runs spans in
    let piece = piece-at e runs more spans index n was long same in
    ap (λ (es : List Filed). (get_or es n d).item) was.filed
    ∙ ap (λ (f : Filed). f.item) (get_or-map (filed_by index.keys) pieces n [] d piece.0)
    ∙ ap mix_of piece.1

-- ---- where sets begin

-- what begins behind all sets is none of them
pub behind-all : (e : Extent) (runs more : List Run) (spans : List Span) (index : Files) (latest n : ℕ)
    → AreNumbered e runs spans index → AreRunsFrom 0 (size_of e) more
    → BeginUpTo latest (runs_by_number runs spans) → latest < first_of more
    → slice_get (map (spelled e) (runs_by_number runs spans)) n ≢ Some (spelled e more)
behind-all e runs more spans index latest n was long begin behind same =
    let piece = piece-at e runs more spans index n was long same in
    let early : first_of more ≤ latest =
    subst (λ (rs : List Run). first_of rs ≤ latest) piece.1 (begin n [] piece.0) in
    absurd (omega (arith, early, behind))

-- one more set, and where the last one of all begins now
pub begin-push : (runs more : List Run) (spans : List Span) (s : Span) (latest now : ℕ)
    → slices_by_number (runs ++ more) (spans ++ s ∷ []) ≡ slices_by_number runs spans ++ more ∷ []
    → BeginUpTo latest (runs_by_number runs spans) → latest ≤ now → first_of more ≤ now
    → BeginUpTo now (runs_by_number (runs ++ more) (spans ++ s ∷ []))
begin-push runs more spans s latest now grown begin later own =
    let pieces = runs_by_number runs spans in
    rw grown (All-push (λ (rs : List Run). first_of rs ≤ now) pieces more
    (All-weaker (λ (rs : List Run). first_of rs ≤ latest) (λ (rs : List Run). first_of rs ≤ now)
    (λ rs early. omega (arith, early, later)) pieces begin) own)

-- ---- more keys

-- sets stay numbered where their entries are filed anew
pub numbered-widened : (e : Extent) (runs : List Run) (spans : List Span) (index after : Files)
    → AreNumbered e runs spans index → IsWidened index after → AreNumbered e runs spans after
numbered-widened e runs spans index after was wide = record {
  within = was.within;
  longest = was.longest;
  different = was.different;
  keys = widened-keys index after was.keys wide;
  filed = widened-filed mix_of index after (runs_by_number runs spans) was.filed wide;
}

-- each set of a table has the table's shape
pub shape-of : (e : Extent) (runs : List (List Run)) (n : ℕ) (s : Cells)
    → slice_get (map (spelled e) runs) n ≡ Some s → s.extent ≡ e
shape-of e [] n s there = cc
shape-of e (r ∷ runs) zero s there = cc
shape-of e (r ∷ runs) (suc n) s there = shape-of e runs n s there
