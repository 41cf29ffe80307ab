-- What stands at a place, by its parts, is all that stands there.
--
-- The key idea: no word of a part begins another, so two stores that begin at one place have the same tables, and as
-- the same number of rows is as many bytes, the same bytes of names.
use Rattle.std.proofs.Common.{◌≡◌, ℕ, ◌+◌, ◌*◌, ◌^◌, ◌≤◌, List, ◌∷◌, ◌++◌, length, drop, true, false, Bool}
use Rattle.std.proofs.Common.{sym, ap, ap₂, subst, ◌∙◌, arith, append_assoc, length-drop}
use Rattle.std.specs.Prelude.{◌==◌, if◌then◌else◌}
use Rattle.std.specs.List.{AllZip, flat_map}
use Rattle.std.proofs.lemmas.List.{append-nil, drop_all}
use Rattle.std.proofs.lemmas.List.Elements.{All-head}
use Rattle.sz_cells.specs.Extent.{Extent, is_extent}
use Rattle.sz_cells.specs.Cells.{Cells}
use Rattle.sz_cells.specs.SetBytes.{IsSetOf, set_bytes, four_bytes}
use Rattle.sz_cells.proofs.LawsOfSets.{split-same}
use Rattle.sz_spec.specs.Shapes.{Site}
use Rattle.sz_frame.specs.Parts.{Pairing, Entry}
use Rattle.sz_region.specs.Counted.{counted, rows_bytes, IsAt}
use Rattle.sz_region.specs.FullBytes.{Listed, IsListed}
use Rattle.sz_region.specs.LawsStores.{AreRight}
use Rattle.sz_region.specs.PayBytes.{IsShort, payload_bytes, AreNamesOfEntry}
use Rattle.sz_region.proofs.FullStores.{regions-one}
use Rattle.sz_region.proofs.PayStores.{payload-free, entries-one}
use Rattle.sz_region.proofs.Numbering.{zip-length}
use Rattle.sz_region.proofs.NumberingPay.{rows-wide}
use Rattle.sz_region.proofs.Spans.{counted-free, number-free}
use Rattle.sz_short.specs.ShortSets.{short_set_bytes}
use Rattle.sz_short.specs.ShortStores.{listed_by, AreFullParts, full_word, BeginsFull, ArePayParts, pay_word}
use Rattle.sz_short.specs.ShortStores.{AreRowsOf}
use Rattle.sz_short.proofs.Respelling.{AreKnownBy, long-known, short-known, listed-known, names-rows, rows-long}
use Rattle.sz_short.proofs.Respelling.{full-begins, long-begins}
use Rattle.sz_short.proofs.RespellingPay.{pay-begins, long-pay}
use Rattle.sz_formats.specs.Formats.{spelling}
use Rattle.sz_formats.specs.Words.{BeginsPayloadsBy}

-- sets are known by their bytes in either format
pub format-known : (f : ℕ) → AreKnownBy (spelling f)
format-known f = by (f == 2) where
  by : (b : Bool) → AreKnownBy (if b then short_set_bytes else set_bytes)
  by true = short-known
  by false = long-known

-- behind what stands twice, the same place
pub place-same : (bytes : List ℕ) (a b : ℕ) → a ≤ length bytes → b ≤ length bytes → drop a bytes ≡ drop b bytes → a ≡ b
place-same bytes a b inside there same = omega (arith, ap length same, length-drop a bytes, length-drop b bytes)

-- bytes stand in themselves
pub at-whole : (word : List ℕ) → IsAt word 0 (length word) word
at-whole word = record {
  spelled = sym (append-nil word) ∙ ap (λ (w : List ℕ). word ++ w) (sym (drop_all (length word) word (omega arith)));
  within = omega arith;
}

-- a word that begins, and ends within the bytes
pub at-word : (bytes : List ℕ) (at next : ℕ) (word rest : List ℕ) → drop at bytes ≡ word ++ rest
    → drop next bytes ≡ rest → next ≤ length bytes → IsAt bytes at next word
at-word bytes at next word rest spelled ends inside = record {
  spelled = spelled ∙ ap (λ (w : List ℕ). word ++ w) (sym ends);
  within = inside;
}

-- rows of one width begin in one way
rows-same : (width : ℕ) (a b : List (List ℕ)) (x y : List ℕ) → AreRowsOf width a → AreRowsOf width b
    → rows_bytes a ++ x ≡ rows_bytes b ++ y → (rows_bytes a ≡ rows_bytes b) × (x ≡ y)
rows-same width a b x y one other same =
    let flat : List (List ℕ) → List ℕ = λ rows. flat_map (flat_map four_bytes) rows in
    let counts = number-free (length a) (length b) (flat a ++ x) (flat b ++ y) one.few other.few same in
    let long : length (flat a) ≡ length (flat b) =
    rows-long width a one.wide ∙ ap (λ (n : ℕ). n * width * 4) counts.0 ∙ sym (rows-long width b other.wide) in
    let parts = split-same (flat a) (flat b) x y long counts.1 in
    (ap₂ (λ (n : ℕ) (w : List ℕ). four_bytes n ++ w) counts.0 parts.0, parts.1)

-- ---- stores of full lineage

pub full-same : (spell : Cells → List ℕ) → AreKnownBy spell → (s : Site) (bytes : List ℕ) (at place next : ℕ)
    (table : List Listed) (names : List (List ℕ)) (regions others : List Pairing) → AreRight (s.out ∷ s.ins)
    → AreFullParts s.out s.ins table names regions → IsAt bytes at place (full_word spell table names)
    → (begins : BeginsFull spell s.out s.ins bytes at next others) → next ≤ length bytes
    → (table ≡ begins.table) × (rows_bytes names ≡ rows_bytes begins.names) × (next ≡ place)
full-same spell known s bytes at place next table names regions others right are here begins inside =
    let word : List Listed → List ℕ = λ l. counted (listed_by spell) l in
    let tables = counted-free (IsListed s.out s.ins) (listed_by spell)
    (listed-known spell known s.out s.ins right) table begins.table (rows_bytes names ++ drop place bytes)
    (rows_bytes begins.names ++ begins.rest)
    (are.each, are.few_sets) (begins.are.each, begins.are.few_sets)
    (sym (append_assoc (word table) (rows_bytes names) (drop place bytes)) ∙ sym here.spelled ∙ begins.spelled
    ∙ append_assoc (word begins.table) (rows_bytes begins.names) begins.rest) in
    let rows = rows-same (length s.ins + 1) names begins.names (drop place bytes) begins.rest
    (names-rows table (length s.ins) names regions are.named are.few)
    (names-rows begins.table (length s.ins) begins.names others begins.are.named begins.are.few) tables.1 in
    (tables.0, rows.0, place-same bytes next place inside here.within (begins.ends ∙ sym rows.1))

-- at most one begins, and it ends at one place
pub full-one : (spell : Cells → List ℕ) → AreKnownBy spell → (s : Site) (bytes : List ℕ) (at a b : ℕ)
    (rs qs : List Pairing) → AreRight (s.out ∷ s.ins) → BeginsFull spell s.out s.ins bytes at a rs
    → BeginsFull spell s.out s.ins bytes at b qs → a ≤ length bytes → b ≤ length bytes → (rs ≡ qs) × (a ≡ b)
full-one spell known s bytes at a b rs qs right p q low high =
    let same = full-same spell known s bytes at a b p.table p.names rs qs right p.are
    (at-word bytes at a (full_word spell p.table p.names) p.rest p.spelled p.ends low) q high in
    let y = full_word set_bytes p.table p.names in
    let words : y ≡ full_word set_bytes q.table q.names =
    ap₂ (λ (l : List Listed) (w : List ℕ). counted (listed_by set_bytes) l ++ w) same.0 same.1 in
    let one = regions-one s.out s.ins y 0 (length y) (length y) rs qs right
    (long-begins s.out s.ins y 0 (length y) rs
    (full-begins set_bytes s.out s.ins y 0 (length y) p.table p.names rs p.are (at-whole y)))
    (long-begins s.out s.ins y 0 (length y) qs
    (full-begins set_bytes s.out s.ins y 0 (length y) q.table q.names qs q.are
    (subst (IsAt y 0 (length y)) words (at-whole y)))) (omega arith) (omega arith) in
    (one.0, sym same.2)

-- ---- stores of payloads

-- names of entries are rows of two
entry-rows : (sets : List Cells) (payloads : List (List ℕ)) (names : List (List ℕ)) (es : List Entry)
    → AllZip (AreNamesOfEntry sets payloads) names es → length es ≤ 2 ^ 30 → AreRowsOf 2 names
entry-rows sets payloads names es named few = record {
  wide = rows-wide sets payloads names es named;
  few = omega (arith, zip-length (AreNamesOfEntry sets payloads) names es named, few);
}

pub pay-same : (spell : Cells → List ℕ) → AreKnownBy spell → (s : Site) (bytes : List ℕ) (at place next : ℕ)
    (payloads : List (List ℕ)) (sets : List Cells) (names : List (List ℕ)) (es others : List Entry)
    → AreRight (s.out ∷ s.ins) → ArePayParts s.out payloads sets names es
    → IsAt bytes at place (pay_word spell payloads sets names)
    → (begins : BeginsPayloadsBy spell s bytes at next others) → next ≤ length bytes
    → (payloads ≡ begins.payloads) × (sets ≡ begins.sets) × (rows_bytes names ≡ rows_bytes begins.names)
    × (next ≡ place)
pay-same spell known s bytes at place next payloads sets names es others right are here begins inside =
    let within : is_extent s.out ≡ true = All-head (λ (e : Extent). is_extent e ≡ true) s.out s.ins right in
    let first : List (List ℕ) → List ℕ = λ l. counted payload_bytes l in
    let second : List Cells → List ℕ = λ l. counted spell l in
    let split : (a b c d : List ℕ) → ((a ++ b) ++ c) ++ d ≡ a ++ (b ++ (c ++ d)) = λ a b c d.
    append_assoc (a ++ b) c d ∙ append_assoc a b (c ++ d) in
    let payload = counted-free IsShort payload_bytes payload-free payloads begins.payloads
    (second sets ++ (rows_bytes names ++ drop place bytes))
    (second begins.sets ++ (rows_bytes begins.names ++ begins.rest))
    (are.short, are.few_payloads) (begins.are.short, begins.are.few_payloads)
    (sym (split (first payloads) (second sets) (rows_bytes names) (drop place bytes)) ∙ sym here.spelled
    ∙ begins.spelled ∙ split (first begins.payloads) (second begins.sets) (rows_bytes begins.names) begins.rest) in
    let set = counted-free (IsSetOf s.out) spell (known s.out within) sets begins.sets
    (rows_bytes names ++ drop place bytes) (rows_bytes begins.names ++ begins.rest) (are.each, are.few_sets)
    (begins.are.each, begins.are.few_sets) payload.1 in
    let rows = rows-same 2 names begins.names (drop place bytes) begins.rest
    (entry-rows sets payloads names es are.named are.few)
    (entry-rows begins.sets begins.payloads begins.names others begins.are.named begins.are.few) set.1 in
    (payload.0, set.0, rows.0, place-same bytes next place inside here.within (begins.ends ∙ sym rows.1))

-- the bytes of a store with the same tables and names
pub pay-word-same : (spell : Cells → List ℕ) (p q : List (List ℕ)) (t u : List Cells) (m n : List (List ℕ)) → p ≡ q
    → t ≡ u → rows_bytes m ≡ rows_bytes n → pay_word spell p t m ≡ pay_word spell q u n
pay-word-same spell p q t u m n payloads sets names =
    ap₂ (λ (a : List ℕ) (b : List ℕ). a ++ b)
    (ap₂ (λ (a : List (List ℕ)) (b : List Cells). counted payload_bytes a ++ counted spell b) payloads sets) names

pub pay-one : (spell : Cells → List ℕ) → AreKnownBy spell → (s : Site) (bytes : List ℕ) (at a b : ℕ)
    (es fs : List Entry) → AreRight (s.out ∷ s.ins) → BeginsPayloadsBy spell s bytes at a es
    → BeginsPayloadsBy spell s bytes at b fs → a ≤ length bytes → b ≤ length bytes → (es ≡ fs) × (a ≡ b)
pay-one spell known s bytes at a b es fs right p q low high =
    let within : is_extent s.out ≡ true = All-head (λ (e : Extent). is_extent e ≡ true) s.out s.ins right in
    let same = pay-same spell known s bytes at a b p.payloads p.sets p.names es fs right p.are
    (at-word bytes at a (pay_word spell p.payloads p.sets p.names) p.rest p.spelled p.ends low) q high in
    let y = pay_word set_bytes p.payloads p.sets p.names in
    let words : y ≡ pay_word set_bytes q.payloads q.sets q.names =
    pay-word-same set_bytes p.payloads q.payloads p.sets q.sets p.names q.names same.0 same.1 same.2 in
    let one = entries-one s.out y 0 (length y) (length y) es fs within
    (long-pay s.out y 0 (length y) es
    (pay-begins set_bytes s.out y 0 (length y) p.payloads p.sets p.names es p.are (at-whole y)))
    (long-pay s.out y 0 (length y) fs
    (pay-begins set_bytes s.out y 0 (length y) q.payloads q.sets q.names fs q.are
    (subst (IsAt y 0 (length y)) words (at-whole y)))) (omega arith) (omega arith) in
    (one.0, sym same.3)
