-- Entries are numbered one after another: their sets, each once, and their payloads, where one is not the last.
use Rattle.std.proofs.Common.{◌≡◌, ℕ, zero, suc, ◌+◌, ◌*◌, ◌-◌, ◌^◌, ◌<◌, ◌≤◌, List, [], ◌∷◌, ◌++◌, length, map, Some}
use Rattle.std.proofs.Common.{refl, sym, ap, ap₂, subst, ◌∙◌, arith, append_assoc, length-append}
use Rattle.std.specs.List.{All, AllZip, flat_map, slice_get}
use Rattle.std.proofs.lemmas.List.{append-nil, length-map, length_push, map_push, map-append}
use Rattle.std.proofs.lemmas.List.Concat.{flat_map-append}
use Rattle.std.proofs.lemmas.List.Elements.{All-nil, All-cons, All-head, All-tail, All-append, All-push}
use Rattle.sz_cells.specs.Extent.{Extent}
use Rattle.sz_cells.specs.Cells.{Cells}
use Rattle.sz_cells.specs.SetBytes.{IsSetOf, set_bytes}
use Rattle.sz_frame.specs.Parts.{Entry}
use Rattle.sz_frame.specs.Fits.{AreApart}
use Rattle.sz_region.specs.Counted.{counted, rows_bytes}
use Rattle.sz_region.specs.FullBytes.{Listed}
use Rattle.sz_region.specs.PayBytes.{IsShort, payload_bytes, AreNamesOfEntry, IsPayWord}
use Rattle.sz_region.specs.Putting.{AreRows, IsPayloadNumbered, IsEntryNumbered, AreEntriesNumbered}
use Rattle.sz_region.proofs.Numbering.{get-longer, get-last, zip-append, zip-weaker, zip-length}

pub payload-new : (payloads : List (List ℕ)) (p : List ℕ) (n : ℕ) → IsShort p → n ≡ length (payloads ++ p ∷ []) - 1
    → IsPayloadNumbered payloads (payloads ++ p ∷ []) p n
payload-new payloads p n short at =
    let last : n ≡ length payloads = omega (arith, length_push payloads p) in
    record {
      more = p ∷ [];
      longer = refl;
      few = omega arith;
      short = All-cons IsShort p [] short (All-nil IsShort);
      named = ap (slice_get (payloads ++ p ∷ [])) last ∙ get-last payloads p;
    }

pub payload-known : (payloads : List (List ℕ)) (p : List ℕ) (n : ℕ)
    → slice_get payloads (length payloads - 1) ≡ Some p → n ≡ length payloads - 1
    → IsPayloadNumbered payloads payloads p n
payload-known payloads p n is at = record {
  more = [];
  longer = sym (append-nil payloads);
  few = omega arith;
  short = All-nil IsShort;
  named = ap (slice_get payloads) at ∙ is;
}

-- the names of an entry are those of longer tables
names-longer : (sets more : List Cells) (payloads others : List (List ℕ)) (ns : List ℕ) (e : Entry)
    → AreNamesOfEntry sets payloads ns e → AreNamesOfEntry (sets ++ more) (payloads ++ others) ns e
names-longer sets more payloads others [] e are = are
names-longer sets more payloads others (s ∷ []) e are = are
names-longer sets more payloads others (s ∷ p ∷ []) e are =
    (get-longer sets more s e.out are.0, get-longer payloads others p e.payload are.1)
names-longer sets more payloads others (s ∷ p ∷ n ∷ ns) e are = are

pub entries-none : AreEntriesNumbered [] [] [] []
entries-none = record {
  few = omega arith;
  short = All-nil IsShort;
  outs = refl;
  are_sets = All-nil (λ e. IsSetOf e.out.extent e.out);
  rows = [];
  flat = refl;
  named = tt;
}

pub entries-more : (payloads after : List (List ℕ)) (sets listed : List Listed) (names now : List ℕ)
    (entries : List Entry) (e : Entry) → AreEntriesNumbered payloads sets names entries
    → IsEntryNumbered payloads after sets listed names now e → AreEntriesNumbered after listed now (entries ++ e ∷ [])
entries-more payloads after sets listed names now entries e done next =
    let seen : List Listed → List Cells = map (λ (l : Listed). l.set) in
    let outs : seen listed ≡ seen sets ++ e.out ∷ [] =
    ap (map (λ (l : Listed). l.set)) next.set ∙ map_push (λ (l : Listed). l.set) sets
    (record { array = 0; set = e.out }) in
    let long : length (seen sets) ≡ length sets = length-map sets (λ (l : Listed). l.set) in
    let row : List ℕ = length sets ∷ next.number ∷ [] in
    let first : slice_get (seen listed) (length sets) ≡ Some e.out =
    ap₂ (λ (xs : List Cells) (n : ℕ). slice_get xs n) outs (sym long) ∙ get-last (seen sets) e.out in
    record {
      few = omega (
        arith,
        done.few,
        next.payload.few,
        ap length next.payload.longer,
        length-append payloads next.payload.more,
        length_push entries e,
      );
      short = subst (All IsShort) (sym next.payload.longer)
          (All-append IsShort payloads next.payload.more done.short next.payload.short);
      outs = outs ∙ ap (λ (xs : List Cells). xs ++ e.out ∷ []) done.outs
          ∙ sym (map_push (λ (x : Entry). x.out) entries e);
      are_sets = All-push (λ (x : Entry). IsSetOf x.out.extent x.out) entries e done.are_sets next.is_set;
      rows = done.rows ++ (length sets ∷ next.number ∷ []) ∷ [];
      flat = flat_map-append (λ (r : List ℕ). r) done.rows ((length sets ∷ next.number ∷ []) ∷ [])
          ∙ ap (λ (xs : List ℕ). xs ++ length sets ∷ next.number ∷ []) done.flat ∙ sym next.added;
      named = zip-append (AreNamesOfEntry (seen listed) after) done.rows ((length sets ∷ next.number ∷ []) ∷ []) entries
          (e ∷ [])
          (zip-weaker (AreNamesOfEntry (seen sets) payloads) (AreNamesOfEntry (seen listed) after)
          (λ ns x are. subst (λ (ss : List Cells). AreNamesOfEntry ss after ns x) (sym outs)
          (subst (λ (ps : List (List ℕ)). AreNamesOfEntry (seen sets ++ e.out ∷ []) ps ns x) (sym next.payload.longer)
          (names-longer (seen sets) (e.out ∷ []) payloads next.payload.more ns x are)))
          done.rows entries done.named)
          ((first, next.payload.named), tt);
    }

-- ---- all of them

-- the names of an entry are two
pub two-names : (sets : List Cells) (payloads : List (List ℕ)) (ns : List ℕ) (e : Entry)
    → AreNamesOfEntry sets payloads ns e
    → length ns ≡ 2
two-names sets payloads [] e are = elim are [ ]
two-names sets payloads (s ∷ []) e are = elim are [ ]
two-names sets payloads (s ∷ p ∷ []) e are = refl
two-names sets payloads (s ∷ p ∷ n ∷ ns) e are = elim are [ ]

pub rows-wide : (sets : List Cells) (payloads : List (List ℕ)) (rows : List (List ℕ)) (entries : List Entry)
    → AllZip (AreNamesOfEntry sets payloads) rows entries → All (λ row. length row ≡ 2) rows
rows-wide sets payloads [] [] all = All-nil (λ row. length row ≡ 2)
rows-wide sets payloads [] (e ∷ entries) all = elim all [ ]
rows-wide sets payloads (r ∷ rows) [] all = elim all [ ]
rows-wide sets payloads (r ∷ rows) (e ∷ entries) all =
    All-cons (λ row. length row ≡ 2) r rows (two-names sets payloads r e all.0)
    (rows-wide sets payloads rows entries all.1)

pub entries-rows : (payloads : List (List ℕ)) (sets : List Listed) (names : List ℕ) (entries : List Entry)
    → (done : AreEntriesNumbered payloads sets names entries) → AreRows 2 names done.rows
entries-rows payloads sets names entries done =
    record { wide = rows-wide (map (λ l. l.set) sets) payloads done.rows entries done.named; flat = done.flat }

-- sets that have the shape of the output
outs-right : (out : Extent) (entries : List Entry) → All (λ e. e.out.extent ≡ out) entries
    → All (λ e. IsSetOf e.out.extent e.out) entries → All (IsSetOf out) (map (λ e. e.out) entries)
outs-right out [] shapes are = All-nil (IsSetOf out)
outs-right out (e ∷ entries) shapes are =
    All-cons (IsSetOf out) e.out (map (λ x. x.out) entries)
    (subst (λ (s : Extent). IsSetOf s e.out) (All-head (λ x. x.out.extent ≡ out) e entries shapes)
    (All-head (λ x. IsSetOf x.out.extent x.out) e entries are))
    (outs-right out entries (All-tail (λ x. x.out.extent ≡ out) e entries shapes)
    (All-tail (λ x. IsSetOf x.out.extent x.out) e entries are))

-- and the tables and the names make the word
pub entries-word : (out : Extent) (payloads : List (List ℕ)) (sets : List Listed) (names : List ℕ)
    (entries : List Entry)
    → (done : AreEntriesNumbered payloads sets names entries) → All (λ e. e.out.extent ≡ out) entries
    → length entries ≤ 2 ^ 30 → AreApart entries
    → IsPayWord out payloads (map (λ l. l.set) sets) entries
    (counted payload_bytes payloads ++ counted set_bytes (map (λ l. l.set) sets) ++ rows_bytes done.rows)
entries-word out payloads sets names entries done shapes few apart = record {
  short = done.short;
  few_payloads = omega (arith, done.few);
  each = subst (All (IsSetOf out)) (sym done.outs) (outs-right out entries shapes done.are_sets);
  few_sets = omega (arith, ap length done.outs, length-map entries (λ e. e.out));
  few = few;
  apart = apart;
  names = done.rows;
  named = done.named;
  spelled = refl;
}
