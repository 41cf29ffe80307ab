-- Stores one after another.
--
-- The key idea: each store begins where the one before it ends, so what holds of one store holds of all of a list.
use Rattle.std.proofs.Common.{◌≡◌, ℕ, ◌≤◌, List, [], ◌∷◌, ◌++◌, length, true, false, refl, sym, ap, ap₂, subst, ◌∙◌}
use Rattle.std.proofs.Common.{arith}
use Rattle.std.specs.Prelude.{◌↔◌}
use Rattle.sz_cells.specs.Cells.{Cells}
use Rattle.sz_cells.specs.SetBytes.{set_bytes}
use Rattle.sz_spec.specs.declared.modes.Mode.{Mode}
use Rattle.sz_spec.specs.declared.modes.Mode.TheVariants as mode
use Rattle.sz_spec.specs.declared.modes.Strategy.{Strategy}
use Rattle.sz_spec.specs.Shapes.{Site}
use Rattle.sz_spec.specs.Modes.{mode_of, is_stored}
use Rattle.sz_frame.specs.Parts.{Entry}
use Rattle.sz_region.specs.LawsStores.{AreRight}
use Rattle.sz_payload.specs.Begins.{BeginsPayloads}
use Rattle.sz_short.specs.ShortStores.{pay_word}
use Rattle.sz_short.proofs.Respelling.{AreKnownBy, begins-long, long-begins}
use Rattle.sz_short.proofs.RespellingPay.{word-parts, parts-word}
use Rattle.sz_store.specs.Kept.{Holding, regions, entries, Keep, stored_in}
use Rattle.sz_store.specs.Words.{Begins, BeginEach}
use Rattle.sz_formats.specs.Formats.{spelling}
use Rattle.sz_formats.specs.Laws.{FormatOneIsAsBefore, OneListOfStoresBegins}
use Rattle.sz_formats.specs.Twice.{Spellings, Span, AreTwice}
use Rattle.sz_formats.specs.Words.{BeginsPayloadsBy, BeginsBy, BeginEachBy, NoneBeginBy}
use Rattle.sz_formats.proofs.Known.{format-known}
use Rattle.sz_formats.proofs.Twice.{turned, twice-turned, twice-within, begins-too, begins-one}

-- ---- stores in two spellings

pub each-turned : (w : Spellings) (s : Site) (ts : List Strategy) (x y : Span) → AreTwice w s ts x y
    → AreTwice (turned w) s ts y x
each-turned w s [] x y are = (are.1, are.0)
each-turned w s (t ∷ ts) x y are = (
  are.1,
  are.0,
  twice-turned w s (mode_of t) (record x { next = are.0 }) (record y { next = are.1 }) are.2,
  each-turned w s ts (record x { at = are.0 }) (record y { at = are.1 }) are.3,
)

-- they end within the bytes
pub each-within : (w : Spellings) (s : Site) (ts : List Strategy) (x y : Span) → AreTwice w s ts x y
    → x.at ≤ length x.bytes → x.next ≤ length x.bytes
each-within w s [] x y are inside = omega (arith, are.0)
each-within w s (t ∷ ts) x y are inside =
    each-within w s ts (record x { at = are.0 }) (record y { at = are.1 }) are.3
    (twice-within w s (mode_of t) (record x { next = are.0 }) (record y { next = are.1 }) are.2)

-- what begins in the one begins in the other
pub each-too : (w : Spellings) → AreKnownBy w.one → (s : Site) (ts : List Strategy) (x y : Span) (k : ℕ)
    (fs : List Keep) → AreRight (s.out ∷ s.ins) → AreTwice w s ts x y → BeginEachBy w.one s ts x.bytes x.at k fs
    → (k ≡ x.next) × BeginEachBy w.other s ts y.bytes y.at y.next fs
each-too w known s [] x y k [] right are begin = (begin ∙ sym are.0, are.1)
each-too w known s [] x y k (f ∷ fs) right are begin = absurd begin
each-too w known s (t ∷ ts) x y k [] right are begin = absurd begin
each-too w known s (t ∷ ts) x y k (f ∷ fs) right are begin =
    let here : Span = record x { next = are.0 } in
    let there : Span = record y { next = are.1 } in
    let first = begins-too w known s (mode_of t) here there begin.0 f.holding right are.2 begin.3 begin.1 in
    let more = each-too w known s ts (record x { at = are.0 }) (record y { at = are.1 }) k fs right are.3
    (subst (λ (p : ℕ). BeginEachBy w.one s ts x.bytes p k fs) first.0 begin.4) in
    let inside : are.1 ≤ length y.bytes =
    twice-within (turned w) s (mode_of t) there here (twice-turned w s (mode_of t) here there are.2) in
    (more.0, (are.1, inside, begin.2, first.1, more.1))

-- those of one list, and behind them those of another
pub each-then : (w : Spellings) (s : Site) (ts us : List Strategy) (x y : Span) (m n : ℕ)
    → AreTwice w s ts (record x { next = m }) (record y { next = n })
    → AreTwice w s us (record x { at = m }) (record y { at = n }) → AreTwice w s (ts ++ us) x y
each-then w s [] us x y m n first second =
    subst (λ (a : ℕ). AreTwice w s us (record x { at = a }) y) first.0
    (subst (λ (b : ℕ). AreTwice w s us (record x { at = m }) (record y { at = b })) first.1 second)
each-then w s (t ∷ ts) us x y m n first second = (
  first.0,
  first.1,
  first.2,
  each-then w s ts us (record x { at = first.0 }) (record y { at = first.1 }) m n first.3 second,
)

-- ---- where none begin

-- those of two lists are those of the first, and behind them those of the second
each-split : (spell : Cells → List ℕ) (s : Site) (ts us : List Strategy) (bytes : List ℕ) (a c : ℕ) (zs : List Keep)
    → BeginEachBy spell s (ts ++ us) bytes a c zs
    → (b : ℕ) × (xs : List Keep) × (ys : List Keep) × BeginEachBy spell s ts bytes a b xs
    × BeginEachBy spell s us bytes b c ys
each-split spell s [] us bytes a c zs whole = (a, [], zs, refl, whole)
each-split spell s (t ∷ ts) us bytes a c [] whole = absurd whole
each-split spell s (t ∷ ts) us bytes a c (z ∷ zs) whole =
    let rest = each-split spell s ts us bytes whole.0 c zs whole.4 in
    (rest.0, z ∷ rest.1, rest.2, (whole.0, whole.1, whole.2, whole.3, rest.3), rest.4)

-- where those of a front do not begin, none do
pub none-first : (spell : Cells → List ℕ) (s : Site) (ts us : List Strategy) (bytes : List ℕ) (at : ℕ)
    → NoneBeginBy spell s ts bytes at → NoneBeginBy spell s (ts ++ us) bytes at
none-first spell s ts us bytes at none next fs begin =
    let parts = each-split spell s ts us bytes at next fs begin in none parts.0 parts.1 parts.3

-- nor where the others do not begin behind it
pub none-behind : (w : Spellings) → AreKnownBy w.one → (s : Site) (ts us : List Strategy) (x y : Span)
    → AreRight (s.out ∷ s.ins) → AreTwice w s ts x y → NoneBeginBy w.one s us x.bytes x.next
    → NoneBeginBy w.one s (ts ++ us) x.bytes x.at
none-behind w known s ts us x y right are none next fs begin =
    let parts = each-split w.one s ts us x.bytes x.at next fs begin in
    let same = (each-too w known s ts x y parts.0 parts.1 right are parts.3).0 in
    none next parts.2 (subst (λ (p : ℕ). BeginEachBy w.one s us x.bytes p next parts.2) same parts.4)

-- the stored strategies of a list are the first one, where it is stored, and those of the others
pub stored-first : (t : Strategy) (ts : List Strategy) → stored_in (t ∷ ts) ≡ stored_in (t ∷ []) ++ stored_in ts
stored-first t ts =
    elim (is_stored t) as (λ b. is_stored t ≡ b → stored_in (t ∷ ts) ≡ stored_in (t ∷ []) ++ stored_in ts) [
      | true ↦ λ is. rw is refl
      | false ↦ λ is. rw is refl
    ] refl

-- ---- at most one list begins

keep-same : (f g : Keep) → f.strategy ≡ g.strategy → f.holding ≡ g.holding → f ≡ g
keep-same f g strategy holding =
    let make : Strategy → Holding → Keep = λ t h. record { strategy = t; holding = h } in
    ap₂ make strategy holding

by-one : (spell : Cells → List ℕ) → AreKnownBy spell → (s : Site) (ts : List Strategy) (bytes : List ℕ)
    (at next other : ℕ) (a b : List Keep) → AreRight (s.out ∷ s.ins) → BeginEachBy spell s ts bytes at next a
    → BeginEachBy spell s ts bytes at other b → (a ≡ b) × (next ≡ other)
by-one spell known s [] bytes at next other [] [] right first second = (refl, first ∙ sym second)
by-one spell known s [] bytes at next other [] (z ∷ zs) right first second = absurd second
by-one spell known s [] bytes at next other (x ∷ xs) zs right first second = absurd first
by-one spell known s (t ∷ ts) bytes at next other [] zs right first second = absurd first
by-one spell known s (t ∷ ts) bytes at next other (x ∷ xs) [] right first second = absurd second
by-one spell known s (t ∷ ts) bytes at next other (x ∷ xs) (z ∷ zs) right first second =
    let one = begins-one spell known s (mode_of t) bytes at second.0 first.0 z.holding x.holding right second.3 first.3
    second.1 first.1 in
    let rest = by-one spell known s ts bytes first.0 next other xs zs right first.4
    (subst (λ (n : ℕ). BeginEachBy spell s ts bytes n other zs) one.1 second.4) in (
      ap₂ (λ (f : Keep) (fs : List Keep). f ∷ fs) (keep-same x z (first.2 ∙ sym second.2) (sym one.0)) rest.0,
      rest.1,
    )

pub each-one : OneListOfStoresBegins
each-one f s ts bytes at next other a b right first second =
    by-one (spelling f) (format-known f) s ts bytes at next other a b right first second

-- ---- format 1

payloads-before : (s : Site) (bytes : List ℕ) (at next : ℕ) (es : List Entry)
    → BeginsPayloadsBy set_bytes s bytes at next es → BeginsPayloads s bytes at next es
payloads-before s bytes at next es begins = record {
  payloads = begins.payloads;
  sets = begins.sets;
  lawful = begins.lawful;
  word = pay_word set_bytes begins.payloads begins.sets begins.names;
  rest = begins.rest;
  is_word = parts-word s.out begins.payloads begins.sets es (begins.names, begins.are);
  spelled = begins.spelled;
  ends = begins.ends;
}

payloads-after : (s : Site) (bytes : List ℕ) (at next : ℕ) (es : List Entry) → BeginsPayloads s bytes at next es
    → BeginsPayloadsBy set_bytes s bytes at next es
payloads-after s bytes at next es begins = record {
  payloads = begins.payloads;
  sets = begins.sets;
  names = begins.is_word.names;
  are = word-parts s.out begins.payloads begins.sets es (begins.word, begins.is_word);
  lawful = begins.lawful;
  rest = begins.rest;
  spelled = begins.spelled ∙ ap (λ (w : List ℕ). w ++ begins.rest) begins.is_word.spelled;
  ends = begins.ends;
}

-- what begins in neither
nothing : {A : Type 0} → A ↔ A
nothing = (λ a. a, λ a. a)

begins-as-before : (s : Site) (m : Mode) (bytes : List ℕ) (at next : ℕ) (h : Holding)
    → BeginsBy set_bytes s m bytes at next h ↔ Begins s m bytes at next h
begins-as-before s mode.Full bytes at next (regions rs) =
    (long-begins s.out s.ins bytes at next rs, begins-long s.out s.ins bytes at next rs)
begins-as-before s mode.Full bytes at next (entries comp es) = nothing
begins-as-before s mode.Pay bytes at next (regions rs) = nothing
begins-as-before s mode.Pay bytes at next (entries true es) = nothing
begins-as-before s mode.Pay bytes at next (entries false es) =
    (payloads-before s bytes at next es, payloads-after s bytes at next es)
begins-as-before s mode.Comp bytes at next (regions rs) = nothing
begins-as-before s mode.Comp bytes at next (entries false es) = nothing
begins-as-before s mode.Comp bytes at next (entries true es) =
    (payloads-before s bytes at next es, payloads-after s bytes at next es)
begins-as-before s mode.Map bytes at next h = nothing
begins-as-before s mode.BlackBox bytes at next h = nothing

pub each-as-before : (s : Site) (ts : List Strategy) (bytes : List ℕ) (at next : ℕ) (fs : List Keep)
    → BeginEachBy set_bytes s ts bytes at next fs ↔ BeginEach s ts bytes at next fs
each-as-before s [] bytes at next [] = nothing
each-as-before s [] bytes at next (f ∷ fs) = nothing
each-as-before s (t ∷ ts) bytes at next [] = nothing
each-as-before s (t ∷ ts) bytes at next (f ∷ fs) =
    let one = λ (place : ℕ). begins-as-before s (mode_of t) bytes at place f.holding in
    let more = λ (place : ℕ). each-as-before s ts bytes place next fs in (
      λ begin. (begin.0, begin.1, begin.2, (one begin.0).0 begin.3, (more begin.0).0 begin.4),
      λ begin. (begin.0, begin.1, begin.2, (one begin.0).1 begin.3, (more begin.0).1 begin.4),
    )

pub format-one : FormatOneIsAsBefore
format-one = each-as-before
