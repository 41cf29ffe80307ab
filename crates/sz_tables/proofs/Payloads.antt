-- How payloads stay kept where one is added, and what the payload of a number is.
--
-- The key idea: the bytes of a further payload stand behind all others, so each old span gives the payload that it
-- gave; and an equal payload has the same key, so the walk over the entries of that key meets it.
use Rattle.std.proofs.Common.{◌≡◌, ◌≢◌, ℕ, ◌+◌, ◌%◌, ◌<◌, List, [], ◌∷◌, ◌++◌, length, get_or}
use Rattle.std.proofs.Common.{slice_range, sym, ap, ◌∙◌, arith, Option, Some, unwrap_or}
use Rattle.std.specs.List.{slice_get, HoldsAt}
use Rattle.std.proofs.lemmas.List.{length-map, get_or-map}
use Rattle.std.proofs.lemmas.Option.{slice_get_within, unwrap_or-slice_get}
use Rattle.std.proofs.lemmas.Option.{get_or_from_slice_get}
use Rattle.sz_tables.specs.declared.spans.Span.{Span}
use Rattle.sz_tables.specs.Filed.{Filed, Files, IsWidened}
use Rattle.sz_tables.specs.Tables.{slices_by_number}
use Rattle.sz_tables.specs.Payloads.{AreKept, payload_at, payload_mix, payload_filed}
use Rattle.sz_tables.proofs.Filing.{filed-push, filed-key, widened-keys, widened-filed}
use Rattle.sz_tables.proofs.Slices.{cut, cuts-push, within-push, different-push}

-- ---- one more payload

-- payloads are kept where one more that is new stands behind them, under its key
pub kept-push : (bytes more : List ℕ) (spans : List Span) (s : Span) (index after : Files) (key mix : ℕ)
    → AreKept bytes spans index → ((n : ℕ) → slice_get (slices_by_number bytes spans) n ≢ Some more)
    → s.start ≡ length bytes → s.end ≡ length bytes + length more
    → mix ≡ payload_mix more → key ≡ mix % index.keys → after.keys ≡ index.keys
    → after.entries ≡ index.entries ++ record { key = key; item = mix } ∷ []
    → AreKept (bytes ++ more) (spans ++ s ∷ []) after
kept-push bytes more spans s index after key mix was new start end mixed under keys entries =
    let pieces = slices_by_number bytes spans in
    let grown = cuts-push bytes more spans s was.within start end in
    record {
      within = within-push bytes more spans s was.within start end;
      different = rw grown (different-push pieces more was.different new);
      keys = omega (arith, keys, was.keys);
      filed = rw grown (filed-push payload_mix index after pieces more key mix was.filed mixed under keys entries);
    }

-- ---- the payload of a number

-- there are as many payloads as spans
pub payloads-count : (bytes : List ℕ) (spans : List Span) → length (slices_by_number bytes spans) ≡ length spans
payloads-count bytes spans = length-map spans (cut bytes)

-- a span gives the payload of its number
pub payload-at : (bytes : List ℕ) (spans : List Span) (n : ℕ) (s : Span) → n < length (slices_by_number bytes spans)
    → s ≡ get_or spans n s → payload_at (slices_by_number bytes spans) n ≡ slice_range bytes s.start s.end
payload-at bytes spans n s within read =
    let inside : n < length spans = omega (arith, payloads-count bytes spans) in
    unwrap_or-slice_get (slices_by_number bytes spans) n []
    ∙ get_or-map (cut bytes) spans n s [] inside
    ∙ ap (cut bytes) (sym read)

-- the payload that has a number
pub payload-read : (ps : List (List ℕ)) (n : ℕ) (more : List ℕ) → slice_get ps n ≡ Some more → payload_at ps n ≡ more
payload-read ps n more same = ap (λ (o : Option (List ℕ)). unwrap_or o []) same

-- ---- a walk over the entries of a key

-- each payload has an entry
pub filed-count : (bytes : List ℕ) (spans : List Span) (index : Files) → AreKept bytes spans index
    → length index.entries ≡ length (slices_by_number bytes spans)
filed-count bytes spans index was =
    ap length was.filed ∙ length-map (slices_by_number bytes spans) (payload_filed index.keys)

-- a payload is filed under the rest of what it is mixed to
pub filed-at : (bytes more : List ℕ) (spans : List Span) (index : Files) (key n : ℕ) → AreKept bytes spans index
    → key ≡ payload_mix more % index.keys → slice_get (slices_by_number bytes spans) n ≡ Some more
    → HoldsAt (λ f. f.key ≡ key) index.entries n × (n < length index.entries)
filed-at bytes more spans index key n was under same =
    let pieces = slices_by_number bytes spans in
    filed-key payload_mix index pieces n [] more key was.filed (slice_get_within pieces n more same)
    (get_or_from_slice_get pieces n more [] same) under

-- and with what it is mixed to
pub item-at : (bytes more : List ℕ) (spans : List Span) (index : Files) (n : ℕ) → AreKept bytes spans index
    → slice_get (slices_by_number bytes spans) n ≡ Some more → HoldsAt (λ f. f.item ≡ payload_mix more) index.entries n
item-at bytes more spans index n was same d =
    let pieces = slices_by_number bytes spans in
    ap (λ (es : List Filed). (get_or es n d).item) was.filed
    ∙ ap (λ (f : Filed). f.item) (get_or-map (payload_filed index.keys) pieces n [] d (slice_get_within pieces n more
    same))
    ∙ ap payload_mix (get_or_from_slice_get pieces n more [] same)

-- ---- more keys

-- payloads stay kept where their entries are filed anew
pub kept-widened : (bytes : List ℕ) (spans : List Span) (index after : Files) → AreKept bytes spans index
    → IsWidened index after → AreKept bytes spans after
kept-widened bytes spans index after was wide = record {
  within = was.within;
  different = was.different;
  keys = widened-keys index after was.keys wide;
  filed = widened-filed payload_mix index after (slices_by_number bytes spans) was.filed wide;
}
