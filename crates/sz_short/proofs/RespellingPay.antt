-- A store of payloads spelled again: what its parts say of it, in either spelling of its sets.
--
-- The key idea is that of stores of full lineage: the parts that were read are those of any store that begins there.
use Rattle.std.proofs.Common.{◌≡◌, ℕ, ◌+◌, ◌^◌, ◌<◌, ◌≤◌, List, [], ◌∷◌, ◌++◌, length, drop, true, refl, sym, ap}
use Rattle.std.proofs.Common.{take}
use Rattle.std.proofs.Math.Seq.{drop-drop}
use Rattle.std.proofs.lemmas.List.{length-take-le, take-append-drop}
use Rattle.std.proofs.Common.{subst, ◌∙◌, arith, append_assoc, length-append, length-drop}
use Rattle.std.specs.List.{All, AllZip}
use Rattle.std.proofs.lemmas.List.Elements.{All-nil, All-cons}
use Rattle.sz_cells.specs.Extent.{Extent, is_extent}
use Rattle.sz_cells.specs.Cells.{Cells}
use Rattle.sz_cells.specs.SetBytes.{IsSetOf, set_bytes, four_bytes}
use Rattle.sz_frame.specs.Parts.{Entry}
use Rattle.sz_region.specs.Counted.{counted, rows_bytes, IsAt}
use Rattle.sz_region.specs.PayBytes.{IsShort, payload_bytes, AreNamesOfEntry, IsPayWord, BeginsEntries}
use Rattle.sz_region.specs.Stores.{NoneAt, AreFew, NoEntriesBegin}
use Rattle.sz_region.proofs.Appending.{kept-first}
use Rattle.sz_region.proofs.Numbering.{zip-length}
use Rattle.sz_region.proofs.PayStores.{payload-free}
use Rattle.sz_region.proofs.Spans.{at-both, counted-free, number-read, first-read}
use Rattle.sz_short.specs.ShortSets.{short_set_bytes}
use Rattle.sz_short.specs.ShortStores.{ArePayParts, pay_word, BeginsPay, NoPayBegins, RespellsPay, AreRowsOf, IsBlock}
use Rattle.sz_short.proofs.Respelling.{AreKnownBy, long-known, short-known, block-rows, written-first, written-second}

-- ---- payloads

-- a payload that begins is as long as its number says, and fits
pub payload-fits : (bytes : List ℕ) (at long : ℕ) (payload rest : List ℕ) → IsAt bytes at (at + 4) (four_bytes long)
    → long < 2 ^ 32 → IsShort payload → drop at bytes ≡ payload_bytes payload ++ rest
    → at + 4 + long ≤ length bytes
payload-fits bytes at long payload rest number small short spelled =
    let read = number-read bytes at long (length payload) (payload ++ rest) number small short spelled in
    omega (arith, read.0, ap length read.1, length-drop (at + 4) bytes, length-append payload rest, number.within)

-- a payload that fits is there
pub make-payload : (bytes : List ℕ) (at long : ℕ) → IsAt bytes at (at + 4) (four_bytes long) → long < 2 ^ 32
    → at + 4 + long ≤ length bytes
    → (payload : List ℕ) × IsShort payload × IsAt bytes at (at + 4 + long) (payload_bytes payload)
make-payload bytes at long number small fits =
    let behind = drop (at + 4) bytes in
    let body = take long behind in
    let size : length body ≡ long = length-take-le long behind (omega (arith, length-drop (at + 4) bytes)) in
    let read : IsAt bytes (at + 4) (at + 4 + long) body = record {
      spelled = sym (take-append-drop long behind)
          ∙ ap (λ (w : List ℕ). body ++ w) (drop-drop long (at + 4) bytes);
      within = fits;
    } in (
      body,
      omega (arith, size),
      at-both bytes at (at + 4) (at + 4 + long) (four_bytes (length body)) body
          (subst (λ (n : ℕ). IsAt bytes at (at + 4) (four_bytes n)) (sym size) number) read,
    )

-- ---- names

entry-wide : (sets : List Cells) (payloads : List (List ℕ)) (row : List ℕ) (e : Entry)
    → AreNamesOfEntry sets payloads row e → length row ≡ 2
entry-wide sets payloads [] e is = elim is [ ]
entry-wide sets payloads (a ∷ []) e is = elim is [ ]
entry-wide sets payloads (a ∷ b ∷ []) e is = refl
entry-wide sets payloads (a ∷ b ∷ c ∷ row) e is = elim is [ ]

entries-wide : (sets : List Cells) (payloads : List (List ℕ)) (names : List (List ℕ)) (entries : List Entry)
    → AllZip (AreNamesOfEntry sets payloads) names entries → All (λ row. length row ≡ 2) names
entries-wide sets payloads [] [] named = All-nil (λ row. length row ≡ 2)
entries-wide sets payloads [] (e ∷ entries) named = elim named [ ]
entries-wide sets payloads (row ∷ names) [] named = elim named [ ]
entries-wide sets payloads (row ∷ names) (e ∷ entries) named =
    All-cons (λ row. length row ≡ 2) row names (entry-wide sets payloads row e named.0)
    (entries-wide sets payloads names entries named.1)

entries-rows : (sets : List Cells) (payloads : List (List ℕ)) (names : List (List ℕ)) (entries : List Entry)
    → AllZip (AreNamesOfEntry sets payloads) names entries → length entries ≤ 2 ^ 30 → AreRowsOf 2 names
entries-rows sets payloads names entries named few = record {
  wide = entries-wide sets payloads names entries named;
  few = omega (arith, zip-length (AreNamesOfEntry sets payloads) names entries named, few);
}

-- ---- stores

-- bytes that are kept behind others are kept with those before them
pub kept-behind : (old word mid new : List ℕ) → mid ≡ old ++ word → take (length mid) new ≡ mid
    → take (length old) new ≡ old
kept-behind old word mid new is kept =
    kept-first old word new (subst (λ (w : List ℕ). take (length w) new ≡ w) is kept)

pub pay-begins : (spell : Cells → List ℕ) (out : Extent) (bytes : List ℕ) (at next : ℕ) (payloads : List (List ℕ))
    (sets : List Cells) (names : List (List ℕ)) (entries : List Entry) → ArePayParts out payloads sets names entries
    → IsAt bytes at next (pay_word spell payloads sets names) → BeginsPay spell out bytes at next entries
pay-begins spell out bytes at next payloads sets names entries are read = record {
  rest = drop next bytes;
  payloads = payloads;
  sets = sets;
  names = names;
  are = are;
  spelled = read.spelled;
  ends = refl;
}

-- the parts of a word with sets of eight bytes a run, and the word of parts
pub word-parts : (out : Extent) (payloads : List (List ℕ)) (sets : List Cells) (entries : List Entry)
    → (w : (word : List ℕ) × IsPayWord out payloads sets entries word) → ArePayParts out payloads sets w.1.names entries
word-parts out payloads sets entries w = record {
  short = w.1.short;
  few_payloads = w.1.few_payloads;
  each = w.1.each;
  few_sets = w.1.few_sets;
  few = w.1.few;
  apart = w.1.apart;
  named = w.1.named;
}

pub parts-word : (out : Extent) (payloads : List (List ℕ)) (sets : List Cells) (entries : List Entry)
    → (w : (names : List (List ℕ)) × ArePayParts out payloads sets names entries)
    → IsPayWord out payloads sets entries (pay_word set_bytes payloads sets w.0)
parts-word out payloads sets entries w = record {
  short = w.1.short;
  few_payloads = w.1.few_payloads;
  each = w.1.each;
  spelled = refl;
  few_sets = w.1.few_sets;
  few = w.1.few;
  apart = w.1.apart;
  names = w.0;
  named = w.1.named;
}

-- a store with sets of eight bytes a run, as it is stated elsewhere
pub pay-long : (out : Extent) (bytes : List ℕ) (at next : ℕ) (entries : List Entry)
    → BeginsEntries out bytes at next entries → BeginsPay set_bytes out bytes at next entries
pay-long out bytes at next entries begins = record {
  payloads = begins.payloads;
  sets = begins.sets;
  names = begins.is_word.names;
  rest = begins.rest;
  are = word-parts out begins.payloads begins.sets entries (begins.word, begins.is_word);
  spelled = begins.spelled ∙ ap (λ (w : List ℕ). w ++ begins.rest) begins.is_word.spelled;
  ends = begins.ends;
}

pub long-pay : (out : Extent) (bytes : List ℕ) (at next : ℕ) (entries : List Entry)
    → BeginsPay set_bytes out bytes at next entries → BeginsEntries out bytes at next entries
long-pay out bytes at next entries begins = record {
  payloads = begins.payloads;
  sets = begins.sets;
  word = pay_word set_bytes begins.payloads begins.sets begins.names;
  rest = begins.rest;
  is_word = parts-word out begins.payloads begins.sets entries (begins.names, begins.are);
  spelled = begins.spelled;
  ends = begins.ends;
}

pub no-long-pay : (out : Extent) (bytes : List ℕ) (at : ℕ) → NoPayBegins set_bytes out bytes at
    → NoEntriesBegin out bytes at
no-long-pay out bytes at none next entries begins = none next entries (pay-long out bytes at next entries begins)

-- the payloads, and all that is behind them
behind-payloads : (spell : Cells → List ℕ) (payloads : List (List ℕ)) (sets : List Cells) (names : List (List ℕ))
    (rest : List ℕ) → pay_word spell payloads sets names ++ rest
    ≡ counted payload_bytes payloads ++ (counted spell sets ++ rows_bytes names) ++ rest
behind-payloads spell payloads sets names rest =
    ap (λ (w : List ℕ). w ++ rest) (append_assoc (counted payload_bytes payloads) (counted spell sets)
    (rows_bytes names))

-- no payloads begin
pub no-pay-payloads : (spell : Cells → List ℕ) (out : Extent) (bytes : List ℕ) (at : ℕ)
    → NoneAt (AreFew IsShort) (counted payload_bytes) bytes at → NoPayBegins spell out bytes at
no-pay-payloads spell out bytes at none next entries begins =
    let tail = counted spell begins.sets ++ rows_bytes begins.names in
    none begins.payloads (tail ++ begins.rest) (begins.are.short, begins.are.few_payloads)
    (begins.spelled ∙ behind-payloads spell begins.payloads begins.sets begins.names begins.rest
    ∙ append_assoc (counted payload_bytes begins.payloads) tail begins.rest)

-- payloads that were read are those of any store that begins there
payloads-read : (spell : Cells → List ℕ) (out : Extent) (bytes : List ℕ) (at place next : ℕ)
    (payloads : List (List ℕ)) (entries : List Entry) → AreFew IsShort payloads
    → IsAt bytes at place (counted payload_bytes payloads) → (begins : BeginsPay spell out bytes at next entries)
    → (payloads ≡ begins.payloads)
    × (drop place bytes ≡ counted spell begins.sets ++ rows_bytes begins.names ++ begins.rest)
payloads-read spell out bytes at place next payloads entries short read begins =
    first-read (AreFew IsShort) (counted payload_bytes) (counted-free IsShort payload_bytes payload-free) bytes at place
    payloads begins.payloads (counted spell begins.sets ++ rows_bytes begins.names) begins.rest short read
    (begins.are.short, begins.are.few_payloads)
    (begins.spelled ∙ behind-payloads spell begins.payloads begins.sets begins.names begins.rest)

-- payloads begin, and no sets behind them
pub no-pay-sets : (spell : Cells → List ℕ) (out : Extent) (bytes : List ℕ) (at place : ℕ) (payloads : List (List ℕ))
    → AreFew IsShort payloads → IsAt bytes at place (counted payload_bytes payloads)
    → NoneAt (AreFew (IsSetOf out)) (counted spell) bytes place → NoPayBegins spell out bytes at
no-pay-sets spell out bytes at place payloads short read none next entries begins =
    none begins.sets (rows_bytes begins.names ++ begins.rest) (begins.are.each, begins.are.few_sets)
    ((payloads-read spell out bytes at place next payloads entries short read begins).1
    ∙ append_assoc (counted spell begins.sets) (rows_bytes begins.names) begins.rest)

-- sets that were read are those of any store that begins there
sets-read : (spell : Cells → List ℕ) → AreKnownBy spell → (out : Extent) (bytes : List ℕ) (at place far next : ℕ)
    (payloads : List (List ℕ)) (sets : List Cells) (entries : List Entry) → is_extent out ≡ true
    → AreFew IsShort payloads → IsAt bytes at place (counted payload_bytes payloads) → AreFew (IsSetOf out) sets
    → IsAt bytes place far (counted spell sets) → (begins : BeginsPay spell out bytes at next entries)
    → (sets ≡ begins.sets) × (drop far bytes ≡ rows_bytes begins.names ++ begins.rest)
sets-read spell known out bytes at place far next payloads sets entries right short read each behind begins =
    first-read (AreFew (IsSetOf out)) (counted spell) (counted-free (IsSetOf out) spell (known out right)) bytes place
    far sets begins.sets (rows_bytes begins.names) begins.rest each behind (begins.are.each, begins.are.few_sets)
    (payloads-read spell out bytes at place next payloads entries short read begins).1

-- both tables begin, and no names behind them
pub no-pay-rows : (spell : Cells → List ℕ) → AreKnownBy spell → (out : Extent) (bytes : List ℕ) (at place far : ℕ)
    (payloads : List (List ℕ)) (sets : List Cells) → is_extent out ≡ true → AreFew IsShort payloads
    → IsAt bytes at place (counted payload_bytes payloads) → AreFew (IsSetOf out) sets
    → IsAt bytes place far (counted spell sets) → NoneAt (AreRowsOf 2) rows_bytes bytes far
    → NoPayBegins spell out bytes at
no-pay-rows spell known out bytes at place far payloads sets right short read each behind none next entries begins =
    none begins.names begins.rest
    (entries-rows begins.sets begins.payloads begins.names entries begins.are.named begins.are.few)
    (sets-read spell known out bytes at place far next payloads sets entries right short read each behind begins).1

-- what a store is of whose tables and block were read
abbrev pub IsPayReadAs : Extent → List (List ℕ) → List Cells → List ℕ → List Entry → Type 0
IsPayReadAs out payloads sets block entries =
    (names : List (List ℕ)) × ArePayParts out payloads sets names entries × (block ≡ rows_bytes names)

pub pay-read : (spell : Cells → List ℕ) → AreKnownBy spell → (out : Extent) (bytes : List ℕ)
    (at place far end next : ℕ) (payloads : List (List ℕ)) (sets : List Cells) (block : List ℕ) (entries : List Entry)
    → is_extent out ≡ true → AreFew IsShort payloads → IsAt bytes at place (counted payload_bytes payloads)
    → AreFew (IsSetOf out) sets → IsAt bytes place far (counted spell sets) → IsBlock 2 block
    → IsAt bytes far end block → BeginsPay spell out bytes at next entries
    → IsPayReadAs out payloads sets block entries
pay-read spell known out bytes at place far end next payloads sets block entries right short read each behind is there
    begins =
    let ps = payloads-read spell out bytes at place next payloads entries short read begins in
    let ss = sets-read spell known out bytes at place far next payloads sets entries right short read each behind begins
    in
    let rows = entries-rows begins.sets begins.payloads begins.names entries begins.are.named begins.are.few in (
      begins.names,
      subst (λ (qs : List (List ℕ)). ArePayParts out qs sets begins.names entries) (sym ps.0)
          (subst (λ (ts : List Cells). ArePayParts out begins.payloads ts begins.names entries) (sym ss.0) begins.are),
      block-rows 2 block begins.names (drop end bytes) begins.rest is rows (sym there.spelled ∙ ss.1),
    )

-- and it was spelled again
pub respells-pay : (read written : Cells → List ℕ) (out : Extent) (bytes : List ℕ) (at place far end : ℕ)
    (payloads : List (List ℕ)) (sets : List Cells) (block : List ℕ) (entries : List Entry) (old one two new : List ℕ)
    → IsAt bytes at place (counted payload_bytes payloads) → IsAt bytes place far (counted read sets)
    → IsAt bytes far end block → one ≡ old ++ counted payload_bytes payloads → two ≡ one ++ counted written sets
    → new ≡ two ++ block → IsPayReadAs out payloads sets block entries
    → RespellsPay read written out bytes at end old new
respells-pay read written out bytes at place far end payloads sets block entries old one two new first second third
    one_is two_is new_is is =
    let front = counted payload_bytes payloads in
    let middle = counted written sets in
    record {
      payloads = payloads;
      sets = sets;
      names = is.0;
      entries = entries;
      are = is.1;
      read = at-both bytes at far end (front ++ counted read sets) (rows_bytes is.0)
          (at-both bytes at place far front (counted read sets) first second)
          (subst (IsAt bytes far end) is.2 third);
      written = new_is ∙ ap (λ (w : List ℕ). w ++ block) (two_is ∙ ap (λ (w : List ℕ). w ++ middle) one_is
          ∙ append_assoc old front middle) ∙ append_assoc old (front ++ middle) block
          ∙ ap (λ (w : List ℕ). old ++ (front ++ middle ++ w)) is.2;
    }

-- ---- what was written

-- the first of three words that were appended one behind the other, and the second of them
written-front : (old front middle block one two new : List ℕ) → one ≡ old ++ front → two ≡ one ++ middle
    → new ≡ two ++ block → IsAt new (length old) (length old + length front) front
written-front old front middle block one two new one_is two_is new_is =
    written-first old front (middle ++ block) new (new_is ∙ ap (λ (w : List ℕ). w ++ block) (two_is
    ∙ ap (λ (w : List ℕ). w ++ middle) one_is) ∙ append_assoc (old ++ front) middle block)

written-middle : (old front middle block one two new : List ℕ) → one ≡ old ++ front → two ≡ one ++ middle
    → new ≡ two ++ block → IsAt new (length old + length front) (length old + length front + length middle) middle
written-middle old front middle block one two new one_is two_is new_is =
    let far : length (old ++ front) ≡ length old + length front = length-append old front in
    subst (λ (k : ℕ). IsAt new k (k + length middle) middle) far
    (written-first (old ++ front) middle block new (new_is ∙ ap (λ (w : List ℕ). w ++ block) (two_is
    ∙ ap (λ (w : List ℕ). w ++ middle) one_is)))

written-last : (old front middle block one two new : List ℕ) → one ≡ old ++ front → two ≡ one ++ middle
    → new ≡ two ++ block → IsAt new (length old + length front + length middle) (length new) block
written-last old front middle block one two new one_is two_is new_is =
    let far : length (old ++ front) ≡ length old + length front = length-append old front in
    subst (λ (k : ℕ). IsAt new (k + length middle) (length new) block) far
    (written-second (old ++ front) middle block new (new_is ∙ ap (λ (w : List ℕ). w ++ block) (two_is
    ∙ ap (λ (w : List ℕ). w ++ middle) one_is)))

-- where what was written begins no store, nothing that could be spelled so began
pub no-pay-judged : (out : Extent) (bytes : List ℕ) (at place far end : ℕ) (payloads : List (List ℕ))
    (sets : List Cells) (block : List ℕ) (old one two new : List ℕ) → is_extent out ≡ true → AreFew IsShort payloads
    → IsAt bytes at place (counted payload_bytes payloads) → AreFew (IsSetOf out) sets
    → IsAt bytes place far (counted short_set_bytes sets) → IsBlock 2 block → IsAt bytes far end block
    → one ≡ old ++ counted payload_bytes payloads → two ≡ one ++ counted set_bytes sets → new ≡ two ++ block
    → NoEntriesBegin out new (length old) → NoPayBegins short_set_bytes out bytes at
no-pay-judged out bytes at place far end payloads sets block old one two new right short read each behind is there
    one_is two_is new_is none next entries begins =
    let front = counted payload_bytes payloads in
    let middle = counted set_bytes sets in
    let found = pay-read short_set_bytes short-known out bytes at place far end next payloads sets block entries right
    short read each behind is there begins in
    let first = written-front old front middle block one two new one_is two_is new_is in
    let second = written-middle old front middle block one two new one_is two_is new_is in
    let third = written-last old front middle block one two new one_is two_is new_is in
    none (length new) entries (long-pay out new (length old) (length new) entries
    (pay-begins set_bytes out new (length old) (length new) payloads sets found.0 entries found.1
    (at-both new (length old) (length old + length front + length middle) (length new) (front ++ middle)
    (rows_bytes found.0)
    (at-both new (length old) (length old + length front) (length old + length front + length middle) front middle first
    second)
    (subst (IsAt new (length old + length front + length middle) (length new)) found.2 third))))

-- and where it begins one, it is that store
pub short-pay-judged : (out : Extent) (bytes : List ℕ) (at place far end next : ℕ) (payloads : List (List ℕ))
    (sets : List Cells) (block : List ℕ) (entries : List Entry) (old one two new : List ℕ) → is_extent out ≡ true
    → AreFew IsShort payloads
    → IsAt bytes at place (counted payload_bytes payloads) → AreFew (IsSetOf out) sets
    → IsAt bytes place far (counted short_set_bytes sets) → IsBlock 2 block → IsAt bytes far end block
    → one ≡ old ++ counted payload_bytes payloads → two ≡ one ++ counted set_bytes sets → new ≡ two ++ block
    → BeginsEntries out new (length old) next entries
    → RespellsPay short_set_bytes set_bytes out bytes at end old new
short-pay-judged out bytes at place far end next payloads sets block entries old one two new right short read each
    behind is there one_is two_is new_is begins =
    let front = counted payload_bytes payloads in
    let middle = counted set_bytes sets in
    let first = written-front old front middle block one two new one_is two_is new_is in
    let second = written-middle old front middle block one two new one_is two_is new_is in
    let third = written-last old front middle block one two new one_is two_is new_is in
    respells-pay short_set_bytes set_bytes out bytes at place far end payloads sets block entries old one two new read
    behind there one_is two_is new_is
    (pay-read set_bytes long-known out new (length old) (length old + length front)
    (length old + length front + length middle) (length new) next payloads sets block entries right short first each
    second is third (pay-long out new (length old) next entries begins))

-- a store that begins is that of the parts that were read
pub long-pay-judged : (out : Extent) (bytes : List ℕ) (at place far end next : ℕ) (payloads : List (List ℕ))
    (sets : List Cells) (block : List ℕ) (entries : List Entry) (old one two new : List ℕ) → is_extent out ≡ true
    → AreFew IsShort payloads
    → IsAt bytes at place (counted payload_bytes payloads) → AreFew (IsSetOf out) sets
    → IsAt bytes place far (counted set_bytes sets) → IsBlock 2 block → IsAt bytes far end block
    → one ≡ old ++ counted payload_bytes payloads → two ≡ one ++ counted short_set_bytes sets → new ≡ two ++ block
    → BeginsEntries out bytes at next entries
    → RespellsPay set_bytes short_set_bytes out bytes at end old new
long-pay-judged out bytes at place far end next payloads sets block entries old one two new right short read each
    behind is there one_is two_is new_is begins =
    respells-pay set_bytes short_set_bytes out bytes at place far end payloads sets block entries old one two new read
    behind there one_is two_is new_is
    (pay-read set_bytes long-known out bytes at place far end next payloads sets block entries right short read each
    behind is there (pay-long out bytes at next entries begins))
