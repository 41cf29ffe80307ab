-- A store of payloads: what its three parts say of it, and that its bytes are those of one list of entries.
use Rattle.std.proofs.Common.{◌≡◌, ℕ, zero, suc, ◌+◌, ◌^◌, ◌<◌, ◌≤◌, List, [], ◌∷◌, ◌++◌, length, drop, true, Some}
use Rattle.std.proofs.Common.{refl, sym, ap, ap₂, subst, ◌∙◌, arith, append_assoc, length-append, length-drop}
use Rattle.std.specs.List.{All, AllZip, flat_map, slice_get}
use Rattle.std.proofs.Math.Seq.{drop-drop, drop-append_seam}
use Rattle.std.proofs.lemmas.List.Elements.{All-nil, All-cons, All-get_or}
use Rattle.std.proofs.lemmas.Option.{slice_get_within, same_Some, get_or_from_slice_get}
use Rattle.sz_cells.specs.Extent.{Extent, is_extent}
use Rattle.sz_cells.specs.Cells.{Cells}
use Rattle.sz_cells.specs.SetBytes.{four_bytes, set_bytes, IsSetOf}
use Rattle.sz_cells.proofs.LawsOfSets.{bytes-one, split-same}
use Rattle.sz_frame.specs.Parts.{Entry}
use Rattle.sz_frame.specs.Fits.{AreApart}
use Rattle.sz_region.specs.Counted.{counted, rows_bytes, IsAt}
use Rattle.sz_region.specs.PayBytes.{IsShort, payload_bytes, AreNamesOfEntry, IsPayWord, BeginsEntries}
use Rattle.sz_region.specs.Taking.{NoneBegins}
use Rattle.sz_region.specs.LawsStores.{OneListOfEntriesBegins, WrittenEntriesAreRead}
use Rattle.sz_region.specs.Stores.{NoEntriesBegin, NoneAt, AreFew, IsNumberIn, AreEntryNames, AreEntriesNames}
use Rattle.sz_region.proofs.Numbering.{zip-length}
use Rattle.sz_region.proofs.NumberingPay.{two-names}
use Rattle.sz_region.proofs.Spans.{IsPrefixFree, IsSmall, number-free, number-read, no-number, same-things, no-list}
use Rattle.sz_region.proofs.Spans.{counted-free, at-both}
use Rattle.sz_region.proofs.Names.{zip-some}
use Rattle.sz_region.proofs.FullStores.{zip-one, ends-one, behind-word}

-- ---- payloads and sets

-- payloads do not begin one another
pub payload-free : IsPrefixFree IsShort payload_bytes
payload-free x y a b short little same =
    let count = number-free (length x) (length y) (x ++ a) (y ++ b) short little same in
    split-same x y a b count.0 count.1

-- there are fewer bytes than the length says
pub no-payload : (bytes : List ℕ) (at long : ℕ) → IsAt bytes at (at + 4) (four_bytes long) → IsSmall long
    → length (drop (at + 4) bytes) < long → NoneAt IsShort payload_bytes bytes at
no-payload bytes at long read small few p rest short is =
    let count = number-read bytes at long (length p) (p ++ rest) read small short is in
    omega (arith, ap length count.1, length-append p rest, count.0)

-- sets of one shape do not begin one another
pub set-free : (out : Extent) → is_extent out ≡ true → IsPrefixFree (IsSetOf out) set_bytes
set-free out right x y a b one other same = bytes-one out x y a b right one other same

-- where no set begins, none of the shape does
pub no-set : (out : Extent) (bytes : List ℕ) (at : ℕ) → NoneBegins out bytes at
    → NoneAt (IsSetOf out) set_bytes bytes at
no-set out bytes at none set rest is spelled =
    none (at + length (set_bytes set)) set (record {
      is_set = is;
      rest = rest;
      spelled = spelled;
      ends = sym (drop-drop (length (set_bytes set)) at bytes) ∙ ap (drop (length (set_bytes set))) spelled
          ∙ drop-append_seam (set_bytes set) rest;
    })

-- ---- the names of an entry

-- where the number is past a table, there is no number of the table
pub no-number_past : (count name : ℕ) (bytes : List ℕ) (at : ℕ) → IsAt bytes at (at + 4) (four_bytes name)
    → IsSmall name → count < 2 ^ 32 → count ≤ name → NoneAt (IsNumberIn count) four_bytes bytes at
no-number_past count name bytes at read small few past n rest is spelled =
    let same = number-read bytes at name n rest read small (omega (arith, is)) spelled in
    omega (arith, same.0, is)

-- each is a number of four bytes
entry-names-small : (sets : List Cells) (payloads : List (List ℕ)) (ns : List ℕ) → length sets < 2 ^ 32
    → length payloads < 2 ^ 32 → AreEntryNames sets payloads ns → All IsSmall ns
entry-names-small sets payloads [] few less names = elim names.1 [ ]
entry-names-small sets payloads (s ∷ []) few less names = elim names.1 [ ]
entry-names-small sets payloads (s ∷ p ∷ []) few less names =
    let set = slice_get_within sets s names.0.out names.1.0 in
    let payload = slice_get_within payloads p names.0.payload names.1.1 in
    All-cons IsSmall s (p ∷ []) (omega arith) (All-cons IsSmall p [] (omega arith) (All-nil IsSmall))
entry-names-small sets payloads (s ∷ p ∷ n ∷ ns) few less names = elim names.1 [ ]

pub entry-names-free : (sets : List Cells) (payloads : List (List ℕ)) → length sets < 2 ^ 32 → length payloads < 2 ^ 32
    → IsPrefixFree (AreEntryNames sets payloads) (flat_map four_bytes)
entry-names-free sets payloads few less ns ms a b one other same =
    same-things IsSmall four_bytes number-free ns ms a b (entry-names-small sets payloads ns few less one)
    (entry-names-small sets payloads ms few less other)
    (two-names sets payloads ns one.0 one.1 ∙ sym (two-names sets payloads ms other.0 other.1)) same

-- no set is named
pub no-entry-out : (sets : List Cells) (payloads : List (List ℕ)) (count : ℕ) (bytes : List ℕ) (at : ℕ)
    → length sets ≡ count → NoneAt (IsNumberIn count) four_bytes bytes at
    → NoneAt (AreEntryNames sets payloads) (flat_map four_bytes) bytes at
no-entry-out sets payloads count bytes at long none [] rest names spelled = elim names.1 [ ]
no-entry-out sets payloads count bytes at long none (s ∷ []) rest names spelled = elim names.1 [ ]
no-entry-out sets payloads count bytes at long none (s ∷ p ∷ []) rest names spelled =
    let set = slice_get_within sets s names.0.out names.1.0 in
    none s (four_bytes p ++ rest) (omega arith) spelled
no-entry-out sets payloads count bytes at long none (s ∷ p ∷ n ∷ ns) rest names spelled = elim names.1 [ ]

-- a set is named, but no payload
pub no-entry-payload : (sets : List Cells) (payloads : List (List ℕ)) (count name : ℕ) (out : Cells) (bytes : List ℕ)
    (at : ℕ) → length sets < 2 ^ 32 → length payloads ≡ count → IsAt bytes at (at + 4) (four_bytes name)
    → slice_get sets name ≡ Some out → NoneAt (IsNumberIn count) four_bytes bytes (at + 4)
    → NoneAt (AreEntryNames sets payloads) (flat_map four_bytes) bytes at
no-entry-payload sets payloads count name out bytes at few long read here none [] rest names spelled = elim names.1 [ ]
no-entry-payload sets payloads count name out bytes at few long read here none (s ∷ []) rest names spelled =
    elim names.1 [ ]
no-entry-payload sets payloads count name out bytes at few long read here none (s ∷ p ∷ []) rest names spelled =
    let there = slice_get_within sets name out here in
    let set = slice_get_within sets s names.0.out names.1.0 in
    let payload = slice_get_within payloads p names.0.payload names.1.1 in
    let same = number-read bytes at name s (four_bytes p ++ rest) read (omega arith) (omega arith) spelled in
    none p rest (omega arith) same.1
no-entry-payload sets payloads count name out bytes at few long read here none (s ∷ p ∷ n ∷ ns) rest names spelled =
    elim names.1 [ ]

-- where the next names are not there, no rows of as many entries as are said
pub no-entry-rows : (sets : List Cells) (payloads : List (List ℕ)) (bytes : List ℕ) (at count place : ℕ)
    (rows : List (List ℕ)) (entries : List Entry) → length sets < 2 ^ 32 → length payloads < 2 ^ 32
    → IsAt bytes at (at + 4) (four_bytes count) → IsSmall count
    → AllZip (AreNamesOfEntry sets payloads) rows entries → length entries < count
    → IsAt bytes (at + 4) place (flat_map (flat_map four_bytes) rows)
    → NoneAt (AreEntryNames sets payloads) (flat_map four_bytes) bytes place
    → NoneAt (AreEntriesNames sets payloads) rows_bytes bytes at
no-entry-rows sets payloads bytes at count place rows entries few less number small named short read none all rest is
    spelled =
    let count_is = number-read bytes at count (length all) (flat_map (flat_map four_bytes) all ++ rest) number small
    (omega (arith, is.1)) spelled in
    let long = zip-length (AreNamesOfEntry sets payloads) rows entries named in
    no-list (AreEntryNames sets payloads) (flat_map four_bytes) (entry-names-free sets payloads few less) bytes (at + 4)
    place rows all rest (zip-some (AreNamesOfEntry sets payloads) rows entries named) read none is.0
    (omega (arith, count_is.0)) count_is.1

-- entries that name sets of a shape have sets of it
pub entries-shapes : (out : Extent) (sets : List Cells) (payloads : List (List ℕ)) (rows : List (List ℕ))
    (entries : List Entry) → All (IsSetOf out) sets → AllZip (AreNamesOfEntry sets payloads) rows entries
    → All (λ e. e.out.extent ≡ out) entries
entries-shapes out sets payloads [] [] each named = All-nil (λ e. e.out.extent ≡ out)
entries-shapes out sets payloads [] (e ∷ entries) each named = elim named [ ]
entries-shapes out sets payloads (r ∷ rows) [] each named = elim named [ ]
entries-shapes out sets payloads (r ∷ rows) (e ∷ entries) each named =
    All-cons (λ x. x.out.extent ≡ out) e entries (entry-shape r e named.0)
    (entries-shapes out sets payloads rows entries each named.1)
  where
    entry-shape : (ns : List ℕ) (x : Entry) → AreNamesOfEntry sets payloads ns x → x.out.extent ≡ out
    entry-shape [] x are = elim are [ ]
    entry-shape (s ∷ []) x are = elim are [ ]
    entry-shape (s ∷ p ∷ []) x are =
        let inside = slice_get_within sets s x.out are.0 in
        (subst (IsSetOf out) (get_or_from_slice_get sets s x.out x.out are.0)
        (All-get_or (IsSetOf out) sets s x.out inside each)).extent
    entry-shape (s ∷ p ∷ n ∷ ns) x are = elim are [ ]

-- ---- the three parts

pub entries-begin : (out : Extent) (bytes : List ℕ) (at first second next : ℕ) (payloads : List (List ℕ))
    (sets : List Cells) (rows : List (List ℕ)) (entries : List Entry) → AreFew IsShort payloads
    → IsAt bytes at first (counted payload_bytes payloads) → AreFew (IsSetOf out) sets
    → IsAt bytes first second (counted set_bytes sets) → AllZip (AreNamesOfEntry sets payloads) rows entries
    → length rows ≤ 2 ^ 30 → IsAt bytes second next (rows_bytes rows) → AreApart entries
    → BeginsEntries out bytes at next entries
entries-begin out bytes at first second next payloads sets rows entries short a listed b named few c apart = record {
  payloads = payloads;
  sets = sets;
  word = counted payload_bytes payloads ++ counted set_bytes sets ++ rows_bytes rows;
  rest = drop next bytes;
  is_word = record {
    short = short.0;
    few_payloads = short.1;
    each = listed.0;
    few_sets = listed.1;
    few = omega (arith, zip-length (AreNamesOfEntry sets payloads) rows entries named);
    apart = apart;
    names = rows;
    named = named;
    spelled = refl;
  };
  spelled = (at-both bytes at second next (counted payload_bytes payloads ++ counted set_bytes sets) (rows_bytes rows)
      (at-both bytes at first second (counted payload_bytes payloads) (counted set_bytes sets) a b) c).spelled;
  ends = refl;
}

-- the parts of a word, one after another
word-parts : (out : Extent) (payloads : List (List ℕ)) (sets : List Cells) (entries : List Entry) (word rest : List ℕ)
    → (is : IsPayWord out payloads sets entries word)
    → word ++ rest ≡ counted payload_bytes payloads ++ (counted set_bytes sets ++ (rows_bytes is.names ++ rest))
word-parts out payloads sets entries word rest is =
    ap (λ (xs : List ℕ). xs ++ rest) is.spelled
    ∙ append_assoc (counted payload_bytes payloads ++ counted set_bytes sets) (rows_bytes is.names) rest
    ∙ append_assoc (counted payload_bytes payloads) (counted set_bytes sets) (rows_bytes is.names ++ rest)

-- the names of a word
word-names : (out : Extent) (payloads : List (List ℕ)) (sets : List Cells) (entries : List Entry) (word : List ℕ)
    → (is : IsPayWord out payloads sets entries word) → AreEntriesNames sets payloads is.names
word-names out payloads sets entries word is = (
  zip-some (AreNamesOfEntry sets payloads) is.names entries is.named,
  omega (arith, zip-length (AreNamesOfEntry sets payloads) is.names entries is.named, is.few),
)

-- no payloads begin
pub no-entries-payloads : (out : Extent) (bytes : List ℕ) (at : ℕ)
    → NoneAt (AreFew IsShort) (counted payload_bytes) bytes at → NoEntriesBegin out bytes at
no-entries-payloads out bytes at none next entries begins =
    let is = begins.is_word in
    none begins.payloads (counted set_bytes begins.sets ++ (rows_bytes is.names ++ begins.rest))
    (is.short, is.few_payloads)
    (begins.spelled ∙ word-parts out begins.payloads begins.sets entries begins.word begins.rest is)

-- payloads that were read are those of any store
same-payloads : (out : Extent) (bytes : List ℕ) (at first next : ℕ) (payloads : List (List ℕ)) (entries : List Entry)
    → AreFew IsShort payloads → IsAt bytes at first (counted payload_bytes payloads)
    → (begins : BeginsEntries out bytes at next entries)
    → (payloads ≡ begins.payloads)
    × (drop first bytes ≡ counted set_bytes begins.sets ++ (rows_bytes begins.is_word.names ++ begins.rest))
same-payloads out bytes at first next payloads entries short a begins =
    let is = begins.is_word in
    counted-free IsShort payload_bytes payload-free payloads begins.payloads (drop first bytes)
    (counted set_bytes begins.sets ++ (rows_bytes is.names ++ begins.rest)) short (is.short, is.few_payloads)
    (sym a.spelled ∙ begins.spelled ∙ word-parts out begins.payloads begins.sets entries begins.word begins.rest is)

-- payloads begin, and no sets behind them
pub no-entries-sets : (out : Extent) (bytes : List ℕ) (at first : ℕ) (payloads : List (List ℕ))
    → AreFew IsShort payloads → IsAt bytes at first (counted payload_bytes payloads)
    → NoneAt (AreFew (IsSetOf out)) (counted set_bytes) bytes first → NoEntriesBegin out bytes at
no-entries-sets out bytes at first payloads short a none next entries begins =
    let is = begins.is_word in
    let read = same-payloads out bytes at first next payloads entries short a begins in
    none begins.sets (rows_bytes is.names ++ begins.rest) (is.each, is.few_sets) read.1

-- payloads and sets that were read are those of any store
same-sets : (out : Extent) (bytes : List ℕ) (at first second next : ℕ) (payloads : List (List ℕ)) (sets : List Cells)
    (entries : List Entry) → is_extent out ≡ true → AreFew IsShort payloads
    → IsAt bytes at first (counted payload_bytes payloads) → AreFew (IsSetOf out) sets
    → IsAt bytes first second (counted set_bytes sets)
    → (begins : BeginsEntries out bytes at next entries)
    → (payloads ≡ begins.payloads) × (sets ≡ begins.sets)
    × (drop second bytes ≡ rows_bytes begins.is_word.names ++ begins.rest)
same-sets out bytes at first second next payloads sets entries right short a listed b begins =
    let is = begins.is_word in
    let read = same-payloads out bytes at first next payloads entries short a begins in
    let rest = counted-free (IsSetOf out) set_bytes (set-free out right) sets begins.sets (drop second bytes)
    (rows_bytes is.names ++ begins.rest) listed (is.each, is.few_sets) (sym b.spelled ∙ read.1) in
    (read.0, rest.0, rest.1)

-- both begin, and no names behind them
pub no-entries-names : (out : Extent) (bytes : List ℕ) (at first second : ℕ) (payloads : List (List ℕ))
    (sets : List Cells) → is_extent out ≡ true → AreFew IsShort payloads
    → IsAt bytes at first (counted payload_bytes payloads) → AreFew (IsSetOf out) sets
    → IsAt bytes first second (counted set_bytes sets)
    → NoneAt (AreEntriesNames sets payloads) rows_bytes bytes second → NoEntriesBegin out bytes at
no-entries-names out bytes at first second payloads sets right short a listed b none next entries begins =
    let is = begins.is_word in
    let read = same-sets out bytes at first second next payloads sets entries right short a listed b begins in
    let names = word-names out begins.payloads begins.sets entries begins.word is in
    none is.names begins.rest
    (subst (λ (ps : List (List ℕ)). AreEntriesNames sets ps is.names) (sym read.0)
    (subst (λ (ss : List Cells). AreEntriesNames ss begins.payloads is.names) (sym read.1) names)) read.2

-- names are those of one entry
entry-one : (sets : List Cells) (payloads : List (List ℕ)) (ns : List ℕ) (e f : Entry)
    → AreNamesOfEntry sets payloads ns e → AreNamesOfEntry sets payloads ns f → e ≡ f
entry-one sets payloads [] e f one other = elim one [ ]
entry-one sets payloads (s ∷ []) e f one other = elim one [ ]
entry-one sets payloads (s ∷ p ∷ []) e f one other =
    let make : Cells → List ℕ → Entry = λ x y. record { out = x; payload = y } in
    ap₂ make (same_Some e.out f.out (sym one.0 ∙ other.0)) (same_Some e.payload f.payload (sym one.1 ∙ other.1))
entry-one sets payloads (s ∷ p ∷ n ∷ ns) e f one other = elim one [ ]

-- all three begin, and a cell is in two of the entries
pub no-entries-apart : (out : Extent) (bytes : List ℕ) (at first second third : ℕ) (payloads : List (List ℕ))
    (sets : List Cells) (rows : List (List ℕ)) (entries : List Entry) → is_extent out ≡ true → AreFew IsShort payloads
    → IsAt bytes at first (counted payload_bytes payloads) → AreFew (IsSetOf out) sets
    → IsAt bytes first second (counted set_bytes sets) → AllZip (AreNamesOfEntry sets payloads) rows entries
    → length rows ≤ 2 ^ 30 → IsAt bytes second third (rows_bytes rows) → (AreApart entries → ⊥)
    → NoEntriesBegin out bytes at
no-entries-apart out bytes at first second third payloads sets rows entries right short a listed b named few c together
    next others begins =
    let is = begins.is_word in
    let read = same-sets out bytes at first second next payloads sets others right short a listed b begins in
    let names = word-names out begins.payloads begins.sets others begins.word is in
    let moved : AreEntriesNames sets payloads is.names =
    subst (λ (ps : List (List ℕ)). AreEntriesNames sets ps is.names) (sym read.0)
    (subst (λ (ss : List Cells). AreEntriesNames ss begins.payloads is.names) (sym read.1) names) in
    let named_too : AllZip (AreNamesOfEntry sets payloads) is.names others =
    subst (λ (ps : List (List ℕ)). AllZip (AreNamesOfEntry sets ps) is.names others) (sym read.0)
    (subst (λ (ss : List Cells). AllZip (AreNamesOfEntry ss begins.payloads) is.names others) (sym read.1) is.named) in
    let same = counted-free (AreEntryNames sets payloads) (flat_map four_bytes)
    (entry-names-free sets payloads listed.1 short.1) rows is.names (drop third bytes) begins.rest
    (zip-some (AreNamesOfEntry sets payloads) rows entries named, omega (arith, few)) (moved.0, omega (arith, moved.1))
    (sym c.spelled ∙ read.2) in
    together (subst AreApart (zip-one (AreNamesOfEntry sets payloads) (entry-one sets payloads) rows others entries
    (subst (λ (ns : List (List ℕ)). AllZip (AreNamesOfEntry sets payloads) ns others) (sym same.0) named_too) named)
    is.apart)

-- ---- the laws

-- words that begin one list are one, of one list of entries
entry-words-one : (out : Extent) (p q : List (List ℕ)) (s t : List Cells) (e f : List Entry) (w v a b : List ℕ)
    → is_extent out ≡ true → IsPayWord out p s e w → IsPayWord out q t f v
    → w ++ a ≡ v ++ b → (e ≡ f) × (w ≡ v) × (a ≡ b)
entry-words-one out p q s t e f w v a b right one other same =
    let whole = sym (word-parts out p s e w a one) ∙ same ∙ word-parts out q t f v b other in
    let payloads = counted-free IsShort payload_bytes payload-free p q
    (counted set_bytes s ++ (rows_bytes one.names ++ a)) (counted set_bytes t ++ (rows_bytes other.names ++ b))
    (one.short, one.few_payloads) (other.short, other.few_payloads) whole in
    let sets = counted-free (IsSetOf out) set_bytes (set-free out right) s t
    (rows_bytes one.names ++ a) (rows_bytes other.names ++ b) (one.each, one.few_sets) (other.each, other.few_sets)
    payloads.1 in
    let names = word-names out q t f v other in
    let moved : AreEntriesNames s p other.names =
    subst (λ (ps : List (List ℕ)). AreEntriesNames s ps other.names) (sym payloads.0)
    (subst (λ (ss : List Cells). AreEntriesNames ss q other.names) (sym sets.0) names) in
    let named : AllZip (AreNamesOfEntry s p) other.names f =
    subst (λ (ps : List (List ℕ)). AllZip (AreNamesOfEntry s ps) other.names f) (sym payloads.0)
    (subst (λ (ss : List Cells). AllZip (AreNamesOfEntry ss q) other.names f) (sym sets.0) other.named) in
    let own = word-names out p s e w one in
    let rows = counted-free (AreEntryNames s p) (flat_map four_bytes)
    (entry-names-free s p one.few_sets one.few_payloads) one.names other.names a b (own.0, omega (arith, own.1))
    (moved.0, omega (arith, moved.1)) sets.1 in
    let make : List (List ℕ) → List Cells → List (List ℕ) → List ℕ =
    λ ps ss ns. counted payload_bytes ps ++ counted set_bytes ss ++ rows_bytes ns in (
      zip-one (AreNamesOfEntry s p) (entry-one s p) one.names e f one.named
          (subst (λ (ns : List (List ℕ)). AllZip (AreNamesOfEntry s p) ns f) (sym rows.0) named),
      one.spelled ∙ ap (λ (ps : List (List ℕ)). make ps s one.names) payloads.0
          ∙ ap₂ (make q) sets.0 rows.0 ∙ sym other.spelled,
      rows.1,
    )

pub entries-one : OneListOfEntriesBegins
entries-one out bytes at next other a b right first second inside there =
    let one = entry-words-one out first.payloads second.payloads first.sets second.sets a b first.word second.word
    first.rest second.rest right first.is_word second.is_word (sym first.spelled ∙ second.spelled) in
    (one.0, ends-one bytes next other first.rest second.rest inside there first.ends second.ends one.2)

pub entries-read : WrittenEntriesAreRead
entries-read out payloads sets entries before word rest right is =
    let begins : BeginsEntries out (before ++ (word ++ rest)) (length before) (length before + length word) entries =
    record {
      payloads = payloads;
      sets = sets;
      word = word;
      rest = rest;
      is_word = is;
      spelled = drop-append_seam before (word ++ rest);
      ends = behind-word before word rest;
    } in (
      begins,
      λ other next second inside.
          let one = entries-one out (before ++ (word ++ rest)) (length before) (length before + length word) next
          entries other right begins second
          (omega (arith, length-append before (word ++ rest), length-append word rest)) inside in
          (sym one.0, sym one.1),
    )
