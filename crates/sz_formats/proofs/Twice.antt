-- A store in two spellings of its sets.
--
-- The key idea: where a store begins in the one, it is the one of the tables that stand there; and the same tables make
-- the same store in the other.
use Rattle.std.proofs.Common.{◌≡◌, ℕ, ◌+◌, ◌≤◌, List, ◌∷◌, ◌++◌, length, drop, true, false, refl, sym, ap, ap₂, subst}
use Rattle.std.proofs.Common.{Bool, ◌∙◌, length-append}
use Rattle.sz_cells.specs.Cells.{Cells}
use Rattle.sz_spec.specs.declared.modes.Mode.{Mode}
use Rattle.sz_spec.specs.declared.modes.Mode.TheVariants as mode
use Rattle.sz_spec.specs.Shapes.{Site}
use Rattle.sz_frame.specs.Parts.{Pairing, Entry}
use Rattle.sz_region.specs.Counted.{counted, IsAt}
use Rattle.sz_region.specs.FullBytes.{Listed}
use Rattle.sz_region.specs.LawsStores.{AreRight}
use Rattle.sz_short.specs.ShortStores.{listed_by, AreFullParts, full_word, BeginsFull, ArePayParts, pay_word}
use Rattle.sz_short.specs.ShortStores.{RespellsFull, RespellsPay}
use Rattle.sz_short.proofs.Respelling.{AreKnownBy, full-begins, written-first}
use Rattle.sz_store.specs.Kept.{Holding, regions, entries}
use Rattle.sz_formats.specs.Twice.{Spellings, Span, span, IsFullTwice, IsPayTwice, IsTwice}
use Rattle.sz_formats.specs.Words.{BeginsPayloadsBy, BeginsBy}
use Rattle.sz_formats.proofs.Known.{full-same, pay-same, pay-word-same, full-one, pay-one}

-- ---- by its parts

full-by : (w : Spellings) (s : Site) (x y : Span) (table : List Listed) (names : List (List ℕ)) (rs : List Pairing)
    → AreFullParts s.out s.ins table names rs → IsAt x.bytes x.at x.next (full_word w.one table names)
    → IsAt y.bytes y.at y.next (full_word w.other table names) → IsFullTwice w s x y
full-by w s x y table names rs are here there =
    record { table = table; names = names; regions = rs; are = are; here = here; there = there }

pay-by : (w : Spellings) (s : Site) (x y : Span) (payloads : List (List ℕ)) (sets : List Cells) (names : List (List ℕ))
    (es : List Entry) → ArePayParts s.out payloads sets names es
    → IsAt x.bytes x.at x.next (pay_word w.one payloads sets names)
    → IsAt y.bytes y.at y.next (pay_word w.other payloads sets names) → IsPayTwice w s x y
pay-by w s x y payloads sets names es are here there =
    record { payloads = payloads; sets = sets; names = names; entries = es; are = are; here = here; there = there }

-- ---- the other way round

abbrev pub turned : Spellings → Spellings
turned w = record { one = w.other; other = w.one }

pub twice-turned : (w : Spellings) (s : Site) (m : Mode) (x y : Span) → IsTwice w s m x y → IsTwice (turned w) s m y x
twice-turned w s mode.Full x y is =
    full-by (turned w) s y x is.table is.names is.regions is.are is.there is.here
twice-turned w s mode.Pay x y is =
    pay-by (turned w) s y x is.payloads is.sets is.names is.entries is.are is.there is.here
twice-turned w s mode.Comp x y is =
    pay-by (turned w) s y x is.payloads is.sets is.names is.entries is.are is.there is.here
twice-turned w s mode.Map x y is = absurd is
twice-turned w s mode.BlackBox x y is = absurd is

-- it ends within the bytes
pub twice-within : (w : Spellings) (s : Site) (m : Mode) (x y : Span) → IsTwice w s m x y → x.next ≤ length x.bytes
twice-within w s mode.Full x y is = is.here.within
twice-within w s mode.Pay x y is = is.here.within
twice-within w s mode.Comp x y is = is.here.within
twice-within w s mode.Map x y is = absurd is
twice-within w s mode.BlackBox x y is = absurd is

-- ---- what begins in the one begins in the other

full-begins-too : (w : Spellings) → AreKnownBy w.one → (s : Site) (x y : Span) (k : ℕ) (rs : List Pairing)
    → AreRight (s.out ∷ s.ins) → IsFullTwice w s x y → BeginsFull w.one s.out s.ins x.bytes x.at k rs
    → k ≤ length x.bytes → (k ≡ x.next) × BeginsFull w.other s.out s.ins y.bytes y.at y.next rs
full-begins-too w known s x y k rs right is begins inside =
    let same = full-same w.one known s x.bytes x.at x.next k is.table is.names is.regions rs right is.are is.here begins
    inside in
    let words : full_word w.other is.table is.names ≡ full_word w.other begins.table begins.names =
    ap₂ (λ (l : List Listed) (v : List ℕ). counted (listed_by w.other) l ++ v) same.0 same.1 in (
      same.2,
      full-begins w.other s.out s.ins y.bytes y.at y.next begins.table begins.names rs begins.are
          (subst (IsAt y.bytes y.at y.next) words is.there),
    )

pay-begins-too : (w : Spellings) → AreKnownBy w.one → (s : Site) (x y : Span) (k : ℕ) (es : List Entry)
    → AreRight (s.out ∷ s.ins) → IsPayTwice w s x y → BeginsPayloadsBy w.one s x.bytes x.at k es
    → k ≤ length x.bytes → (k ≡ x.next) × BeginsPayloadsBy w.other s y.bytes y.at y.next es
pay-begins-too w known s x y k es right is begins inside =
    let same = pay-same w.one known s x.bytes x.at x.next k is.payloads is.sets is.names is.entries es right is.are
    is.here begins inside in
    let words = pay-word-same w.other is.payloads begins.payloads is.sets begins.sets is.names begins.names same.0
    same.1 same.2 in
    let there : IsAt y.bytes y.at y.next (pay_word w.other begins.payloads begins.sets begins.names) =
    subst (IsAt y.bytes y.at y.next) words is.there in (
      same.3,
      record {
        payloads = begins.payloads;
        sets = begins.sets;
        names = begins.names;
        rest = drop y.next y.bytes;
        are = begins.are;
        lawful = begins.lawful;
        spelled = there.spelled;
        ends = refl;
      },
    )

pub begins-too : (w : Spellings) → AreKnownBy w.one → (s : Site) (m : Mode) (x y : Span) (k : ℕ) (h : Holding)
    → AreRight (s.out ∷ s.ins) → IsTwice w s m x y → BeginsBy w.one s m x.bytes x.at k h → k ≤ length x.bytes
    → (k ≡ x.next) × BeginsBy w.other s m y.bytes y.at y.next h
begins-too w known s mode.Full x y k (regions rs) right is begins inside =
    full-begins-too w known s x y k rs right is begins inside
begins-too w known s mode.Full x y k (entries comp es) right is begins inside = absurd begins
begins-too w known s mode.Pay x y k (regions rs) right is begins inside = absurd begins
begins-too w known s mode.Pay x y k (entries true es) right is begins inside = absurd begins
begins-too w known s mode.Pay x y k (entries false es) right is begins inside =
    pay-begins-too w known s x y k es right is begins inside
begins-too w known s mode.Comp x y k (regions rs) right is begins inside = absurd begins
begins-too w known s mode.Comp x y k (entries false es) right is begins inside = absurd begins
begins-too w known s mode.Comp x y k (entries true es) right is begins inside =
    pay-begins-too w known s x y k es right is begins inside
begins-too w known s mode.Map x y k h right is begins inside = absurd is
begins-too w known s mode.BlackBox x y k h right is begins inside = absurd is

-- ---- at most one begins

-- the mode of payloads, plain or composite
abbrev pub pay_mode : Bool → Mode
pay_mode false = mode.Pay
pay_mode true = mode.Comp

-- what begins in it is a store of payloads
pub payloads-in : (spell : Cells → List ℕ) (s : Site) (comp : Bool) (bytes : List ℕ) (at next : ℕ) (h : Holding)
    → BeginsBy spell s (pay_mode comp) bytes at next h
    → (es : List Entry) × (h ≡ entries comp es) × BeginsPayloadsBy spell s bytes at next es
payloads-in spell s false bytes at next (regions rs) begins = absurd begins
payloads-in spell s false bytes at next (entries true es) begins = absurd begins
payloads-in spell s false bytes at next (entries false es) begins = (es, refl, begins)
payloads-in spell s true bytes at next (regions rs) begins = absurd begins
payloads-in spell s true bytes at next (entries false es) begins = absurd begins
payloads-in spell s true bytes at next (entries true es) begins = (es, refl, begins)

paid-one : (spell : Cells → List ℕ) → AreKnownBy spell → (s : Site) (comp : Bool) (bytes : List ℕ) (at a b : ℕ)
    (h k : Holding) → AreRight (s.out ∷ s.ins) → BeginsBy spell s (pay_mode comp) bytes at a h
    → BeginsBy spell s (pay_mode comp) bytes at b k → a ≤ length bytes → b ≤ length bytes → (h ≡ k) × (a ≡ b)
paid-one spell known s comp bytes at a b h k right first second low high =
    let x = payloads-in spell s comp bytes at a h first in
    let y = payloads-in spell s comp bytes at b k second in
    let one = pay-one spell known s bytes at a b x.0 y.0 right x.2 y.2 low high in
    (x.1 ∙ ap (entries comp) one.0 ∙ sym y.1, one.1)

pub begins-one : (spell : Cells → List ℕ) → AreKnownBy spell → (s : Site) (m : Mode) (bytes : List ℕ) (at a b : ℕ)
    (h k : Holding) → AreRight (s.out ∷ s.ins) → BeginsBy spell s m bytes at a h → BeginsBy spell s m bytes at b k
    → a ≤ length bytes → b ≤ length bytes → (h ≡ k) × (a ≡ b)
begins-one spell known s mode.Full bytes at a b (regions rs) (regions qs) right first second low high =
    let one = full-one spell known s bytes at a b rs qs right first second low high in
    (ap regions one.0, one.1)
begins-one spell known s mode.Full bytes at a b (regions rs) (entries comp es) right first second low high =
    absurd second
begins-one spell known s mode.Full bytes at a b (entries comp es) k right first second low high = absurd first
begins-one spell known s mode.Pay bytes at a b h k right first second low high =
    paid-one spell known s false bytes at a b h k right first second low high
begins-one spell known s mode.Comp bytes at a b h k right first second low high =
    paid-one spell known s true bytes at a b h k right first second low high
begins-one spell known s mode.Map bytes at a b h k right first second low high = absurd first
begins-one spell known s mode.BlackBox bytes at a b h k right first second low high = absurd first

-- ---- what was spelled again

-- a word that was appended, whatever follows it
at-appended : (old word new rest : List ℕ) → new ≡ old ++ word → IsAt (new ++ rest) (length old) (length new) word
at-appended old word new rest is =
    let far : length old + length word ≡ length new = sym (ap length is ∙ length-append old word) in
    subst (λ (n : ℕ). IsAt (new ++ rest) (length old) n word) far
    (written-first old word rest (new ++ rest) (ap (λ (w : List ℕ). w ++ rest) is))

pub full-twice : (w : Spellings) (s : Site) (bytes : List ℕ) (at next : ℕ) (old new rest : List ℕ)
    → RespellsFull w.one w.other s.out s.ins bytes at next old new
    → IsFullTwice w s (span bytes at next) (span (new ++ rest) (length old) (length new))
full-twice w s bytes at next old new rest is =
    full-by w s (span bytes at next) (span (new ++ rest) (length old) (length new)) is.table is.names is.regions is.are
    is.read (at-appended old (full_word w.other is.table is.names) new rest is.written)

pub pay-twice : (w : Spellings) (s : Site) (bytes : List ℕ) (at next : ℕ) (old new rest : List ℕ)
    → RespellsPay w.one w.other s.out bytes at next old new
    → IsPayTwice w s (span bytes at next) (span (new ++ rest) (length old) (length new))
pay-twice w s bytes at next old new rest is =
    pay-by w s (span bytes at next) (span (new ++ rest) (length old) (length new)) is.payloads is.sets is.names
    is.entries is.are is.read (at-appended old (pay_word w.other is.payloads is.sets is.names) new rest is.written)
