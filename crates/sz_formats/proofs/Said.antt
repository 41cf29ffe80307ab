-- What is said where no store was read, of a format and over the shapes of an operator; and one strategy as a list.
--
-- The key idea: in format 2 sets are short, and in any other they are not; the rest is the same fact.
use Rattle.std.proofs.Common.{◌≡◌, ℕ, ◌++◌, List, [], ◌∷◌, length, true, false, Bool, refl, sym, ap, subst, ◌∙◌}
use Rattle.std.specs.Prelude.{◌==◌, if◌then◌else◌, Result, Ok, Err, IfOk, IfErr, OnErr}
use Rattle.std.proofs.lemmas.Bool.{eqb-true}
use Rattle.std.proofs.lemmas.List.{append-nil}
use Rattle.sz_cells.specs.Extent.{Extent}
use Rattle.sz_cells.specs.Cells.{Cells}
use Rattle.sz_cells.specs.SetBytes.{set_bytes}
use Rattle.sz_spec.specs.declared.modes.Mode.{Mode}
use Rattle.sz_spec.specs.declared.modes.Mode.TheVariants as mode
use Rattle.sz_spec.specs.declared.modes.Strategy.{Strategy}
use Rattle.sz_spec.specs.declared.modes.Strategy.TheVariants as strategy
use Rattle.sz_spec.specs.Shapes.{Site}
use Rattle.sz_spec.specs.Modes.{mode_of, is_stored}
use Rattle.sz_frame.specs.Parts.{Entry}
use Rattle.sz_region.specs.declared.set_bytes.Take.{Take}
use Rattle.sz_region.specs.declared.set_bytes.Take.TheVariants.{Bad, NoMemory}
use Rattle.sz_region.specs.Stores.{OnBad, SaysNoRegions, SaysNoEntries}
use Rattle.sz_region.proofs.Spans.{on_bad-weaker}
use Rattle.sz_short.specs.ShortSets.{short_set_bytes}
use Rattle.sz_short.specs.ShortStores.{NoFullBegins, NoPayBegins, SaysNoShortFull, SaysNoShortPay, BeginsPay}
use Rattle.sz_short.specs.ShortStores.{RespellsFull, RespellsPay, full_word, pay_word}
use Rattle.sz_short.proofs.Respelling.{long-begins}
use Rattle.sz_short.proofs.RespellingPay.{long-pay}
use Rattle.sz_store.specs.Kept.{Holding, regions, entries, Keep, stored_in}
use Rattle.sz_formats.specs.Formats.{spelling, other_than}
use Rattle.sz_formats.specs.Twice.{Spellings, Span, AreTwice, IsTwice, IsPayTwice, from_format, span}
use Rattle.sz_formats.specs.Words.{BeginsBy, BeginEachBy, NoneBeginBy, NoneBeginIn}
use Rattle.sz_formats.proofs.Twice.{full-twice, pay-twice, pay_mode, payloads-in}

-- ---- spellings

-- in any format but 2 sets have eight bytes a run
pub spelled-long : (f : ℕ) → (f ≡ 2 → ⊥) → spelling f ≡ set_bytes
spelled-long f other =
    elim (f == 2) as (λ b. (f == 2) ≡ b → (if b then short_set_bytes else set_bytes) ≡ set_bytes) [
      | true ↦ λ is. absurd (other (eqb-true f 2 is))
      | false ↦ λ is. refl
    ] refl

-- ---- full lineage

say-short-full : (out : Extent) (ins : List Extent) (bytes : List ℕ) (at : ℕ) (e : Take)
    → SaysNoShortFull out ins bytes at e → OnBad e (NoFullBegins short_set_bytes out ins bytes at)
say-short-full out ins bytes at (Bad place) says = says.1
say-short-full out ins bytes at NoMemory says = tt

say-long-full : (out : Extent) (ins : List Extent) (bytes : List ℕ) (at : ℕ) (e : Take)
    → SaysNoRegions out ins bytes at e → OnBad e (NoFullBegins set_bytes out ins bytes at)
say-long-full out ins bytes at (Bad place) says =
    λ next rs begins. says.1 next rs (long-begins out ins bytes at next rs begins)
say-long-full out ins bytes at NoMemory says = tt

-- over the shapes of the operator
moved-full : (spell : Cells → List ℕ) (o out : Extent) (i ins : List Extent) (bytes : List ℕ) (at : ℕ) (e : Take)
    → o ≡ out → i ≡ ins → OnBad e (NoFullBegins spell o i bytes at) → OnBad e (NoFullBegins spell out ins bytes at)
moved-full spell o out i ins bytes at e same_out same_ins is =
    subst (λ (x : Extent). OnBad e (NoFullBegins spell x ins bytes at)) same_out
    (subst (λ (xs : List Extent). OnBad e (NoFullBegins spell o xs bytes at)) same_ins is)

pub said-short-full : (f : ℕ) → f ≡ 2 → (o out : Extent) (i ins : List Extent) (bytes : List ℕ) (at : ℕ) (e : Take)
    → o ≡ out → i ≡ ins → SaysNoShortFull o i bytes at e → OnBad e (NoFullBegins (spelling f) out ins bytes at)
said-short-full f two o out i ins bytes at e same_out same_ins says =
    subst (λ (n : ℕ). OnBad e (NoFullBegins (spelling n) out ins bytes at)) (sym two)
    (moved-full short_set_bytes o out i ins bytes at e same_out same_ins (say-short-full o i bytes at e says))

pub said-long-full : (f : ℕ) → (f ≡ 2 → ⊥) → (o out : Extent) (i ins : List Extent) (bytes : List ℕ) (at : ℕ)
    (e : Take) → o ≡ out → i ≡ ins → SaysNoRegions o i bytes at e
    → OnBad e (NoFullBegins (spelling f) out ins bytes at)
said-long-full f other o out i ins bytes at e same_out same_ins says =
    subst (λ (spell : Cells → List ℕ). OnBad e (NoFullBegins spell out ins bytes at)) (sym (spelled-long f other))
    (moved-full set_bytes o out i ins bytes at e same_out same_ins (say-long-full o i bytes at e says))

-- ---- payloads

say-short-pay : (out : Extent) (bytes : List ℕ) (at : ℕ) (e : Take) → SaysNoShortPay out bytes at e
    → OnBad e (NoPayBegins short_set_bytes out bytes at)
say-short-pay out bytes at (Bad place) says = says.1
say-short-pay out bytes at NoMemory says = tt

say-long-pay : (out : Extent) (bytes : List ℕ) (at : ℕ) (e : Take) → SaysNoEntries out bytes at e
    → OnBad e (NoPayBegins set_bytes out bytes at)
say-long-pay out bytes at (Bad place) says =
    λ next es begins. says.1 next es (long-pay out bytes at next es begins)
say-long-pay out bytes at NoMemory says = tt

pub said-short-pay : (f : ℕ) → f ≡ 2 → (o out : Extent) (bytes : List ℕ) (at : ℕ) (e : Take) → o ≡ out
    → SaysNoShortPay o bytes at e → OnBad e (NoPayBegins (spelling f) out bytes at)
said-short-pay f two o out bytes at e same says =
    subst (λ (n : ℕ). OnBad e (NoPayBegins (spelling n) out bytes at)) (sym two)
    (subst (λ (x : Extent). OnBad e (NoPayBegins short_set_bytes x bytes at)) same (say-short-pay o bytes at e says))

pub said-long-pay : (f : ℕ) → (f ≡ 2 → ⊥) → (o out : Extent) (bytes : List ℕ) (at : ℕ) (e : Take) → o ≡ out
    → SaysNoEntries o bytes at e → OnBad e (NoPayBegins (spelling f) out bytes at)
said-long-pay f other o out bytes at e same says =
    subst (λ (spell : Cells → List ℕ). OnBad e (NoPayBegins spell out bytes at)) (sym (spelled-long f other))
    (subst (λ (x : Extent). OnBad e (NoPayBegins set_bytes x bytes at)) same (say-long-pay o bytes at e says))

-- ---- one strategy

-- the modes that keep a store
abbrev pub keeps_store : Mode → Bool
keeps_store mode.Map = false
keeps_store mode.BlackBox = false
keeps_store _ = true

stored-by-mode : (t : Strategy) → is_stored t ≡ keeps_store (mode_of t)
stored-by-mode strategy.Map = refl
stored-by-mode strategy.FullOneB = refl
stored-by-mode strategy.FullOneF = refl
stored-by-mode strategy.FullManyB = refl
stored-by-mode strategy.FullManyF = refl
stored-by-mode strategy.PayOne = refl
stored-by-mode strategy.PayMany = refl
stored-by-mode strategy.CompOne = refl
stored-by-mode strategy.CompMany = refl
stored-by-mode strategy.BlackBox = refl

stored-one : (t : Strategy) (m : Mode) → m ≡ mode_of t → keeps_store m ≡ true → stored_in (t ∷ []) ≡ t ∷ []
stored-one t m is keeps = rw (stored-by-mode t ∙ ap keeps_store (sym is) ∙ keeps) refl

one-each : (f : ℕ) (s : Site) (t : Strategy) (m : Mode) (bytes : List ℕ) (at n : ℕ) (old new rest : List ℕ)
    → m ≡ mode_of t → keeps_store m ≡ true
    → IsTwice (from_format f) s m (span bytes at n) (span (new ++ rest) (length old) (length new))
    → AreTwice (from_format f) s (stored_in (t ∷ [])) (span bytes at n) (span (new ++ rest) (length old) (length new))
one-each f s t m bytes at n old new rest is keeps twice =
    subst (λ (ts : List Strategy). AreTwice (from_format f) s ts (span bytes at n)
    (span (new ++ rest) (length old) (length new))) (sym (stored-one t m is keeps)) (
      n,
      length new,
      subst (λ (x : Mode). IsTwice (from_format f) s x (span bytes at n)
          (span (new ++ rest) (length old) (length new))) is twice,
      (refl, refl),
    )

-- a strategy that keeps no store has none
stored-none : (t : Strategy) (m : Mode) → m ≡ mode_of t → keeps_store m ≡ false → stored_in (t ∷ []) ≡ []
stored-none t m is keeps = rw (stored-by-mode t ∙ ap keeps_store (sym is) ∙ keeps) refl

pub nothing-each : (f : ℕ) (s : Site) (t : Strategy) (m : Mode) (bytes : List ℕ) (at : ℕ) (old rest : List ℕ)
    → m ≡ mode_of t → keeps_store m ≡ false
    → AreTwice (from_format f) s (stored_in (t ∷ [])) (span bytes at at)
    (span (old ++ rest) (length old) (length old))
nothing-each f s t m bytes at old rest is keeps =
    subst (λ (ts : List Strategy). AreTwice (from_format f) s ts (span bytes at at)
    (span (old ++ rest) (length old) (length old))) (sym (stored-none t m is keeps)) (refl, refl)

-- where no store of its mode begins, none of the list of it does
none-one : (spell : Cells → List ℕ) (s : Site) (t : Strategy) (m : Mode) (bytes : List ℕ) (at : ℕ) → m ≡ mode_of t
    → keeps_store m ≡ true → ((next : ℕ) (h : Holding) → BeginsBy spell s m bytes at next h → ⊥)
    → NoneBeginBy spell s (stored_in (t ∷ [])) bytes at
none-one spell s t m bytes at is keeps none next fs begin =
    first fs (subst (λ (ts : List Strategy). BeginEachBy spell s ts bytes at next fs) (stored-one t m is keeps) begin)
  where
    first : (ks : List Keep) → BeginEachBy spell s (t ∷ []) bytes at next ks → ⊥
    first [] b = b
    first (k ∷ ks) b =
        none b.0 k.holding (subst (λ (x : Mode). BeginsBy spell s x bytes at b.0 k.holding) (sym is) b.3)

-- a store of payloads, of which it is not said that they are the operator's
pay-of : (comp : Bool) (spell : Cells → List ℕ) (s : Site) (bytes : List ℕ) (at next : ℕ) (h : Holding)
    → BeginsBy spell s (pay_mode comp) bytes at next h → (es : List Entry) × BeginsPay spell s.out bytes at next es
pay-of comp spell s bytes at next h begins =
    let there = payloads-in spell s comp bytes at next h begins in
    let store = there.2 in (
      there.0,
      record {
        payloads = store.payloads;
        sets = store.sets;
        names = store.names;
        rest = store.rest;
        are = store.are;
        spelled = store.spelled;
        ends = store.ends;
      },
    )

-- ---- the store of one strategy, spelled again

-- what is said of it, as of the list of the strategy
pub record SaysOfOne (f : ℕ) (s : Site) (t : Strategy) (bytes : List ℕ) (at : ℕ) (old new : List ℕ)
    (r : Result ℕ Take) : Type 0 where
  pub ok : IfOk r (λ n. (rest : List ℕ) → AreTwice (from_format f) s (stored_in (t ∷ [])) (span bytes at n)
      (span (new ++ rest) (length old) (length new)))
  pub front : (more : List ℕ) × (new ≡ old ++ more)
  pub err : IfErr r (λ e. OnBad e (NoneBeginIn f s (stored_in (t ∷ [])) bytes at))

one-said : (f : ℕ) (s : Site) (t : Strategy) (m : Mode) (bytes : List ℕ) (at n : ℕ) (old new word : List ℕ)
    → m ≡ mode_of t → keeps_store m ≡ true → new ≡ old ++ word
    → ((rest : List ℕ) → IsTwice (from_format f) s m (span bytes at n) (span (new ++ rest) (length old) (length new)))
    → SaysOfOne f s t bytes at old new (Ok n)
one-said f s t m bytes at n old new word is keeps front twice = record {
  ok = λ rest. one-each f s t m bytes at n old new rest is keeps (twice rest);
  front = (word, front);
  err = tt;
}

none-said : (f : ℕ) (s : Site) (t : Strategy) (m : Mode) (bytes : List ℕ) (at : ℕ) (old new : List ℕ) (e : Take)
    → m ≡ mode_of t → keeps_store m ≡ true → new ≡ old
    → OnBad e ((next : ℕ) (h : Holding) → BeginsBy (spelling f) s m bytes at next h → ⊥)
    → SaysOfOne f s t bytes at old new (Err e)
none-said f s t m bytes at old new e is keeps kept none = record {
  ok = tt;
  front = ([], kept ∙ sym (append-nil old));
  err = on_bad-weaker e (none-one (spelling f) s t m bytes at is keeps) none;
}

-- of full lineage
pub full-says : (f : ℕ) (s : Site) (t : Strategy) (bytes : List ℕ) (at : ℕ) (old new : List ℕ) (r : Result ℕ Take)
    → mode.Full ≡ mode_of t
    → IfOk r (λ n. RespellsFull (spelling f) (spelling (other_than f)) s.out s.ins bytes at n old new)
    → OnErr r (new ≡ old) → IfErr r (λ e. OnBad e (NoFullBegins (spelling f) s.out s.ins bytes at))
    → SaysOfOne f s t bytes at old new r
full-says f s t bytes at old new (Ok n) is again kept none =
    one-said f s t mode.Full bytes at n old new (full_word (spelling (other_than f)) again.table again.names) is refl
    again.written (λ rest. full-twice (from_format f) s bytes at n old new rest again)
full-says f s t bytes at old new (Err e) is again kept none =
    none-said f s t mode.Full bytes at old new e is refl kept (on_bad-weaker e no none)
  where
    no : NoFullBegins (spelling f) s.out s.ins bytes at → (next : ℕ) (h : Holding)
        → BeginsBy (spelling f) s mode.Full bytes at next h → ⊥
    no none next (regions rs) begins = none next rs begins
    no none next (entries comp es) begins = begins

-- a mode whose stores are of payloads
pub record IsOfPayloads (m : Mode) : Type 0 where
  pub keeps : keeps_store m ≡ true
  pub twice : (w : Spellings) (s : Site) (x y : Span) → IsPayTwice w s x y → IsTwice w s m x y
  pub begins : (spell : Cells → List ℕ) (s : Site) (bytes : List ℕ) (at next : ℕ) (h : Holding)
      → BeginsBy spell s m bytes at next h → (es : List Entry) × BeginsPay spell s.out bytes at next es

pub of-payloads : (comp : Bool) → IsOfPayloads (pay_mode comp)
of-payloads false = record { keeps = refl; twice = λ w s x y is. is; begins = pay-of false }
of-payloads true = record { keeps = refl; twice = λ w s x y is. is; begins = pay-of true }

-- of payloads
pub pay-says : (f : ℕ) (s : Site) (t : Strategy) (m : Mode) (bytes : List ℕ) (at : ℕ) (old new : List ℕ)
    (r : Result ℕ Take) → m ≡ mode_of t → IsOfPayloads m
    → IfOk r (λ n. RespellsPay (spelling f) (spelling (other_than f)) s.out bytes at n old new)
    → OnErr r (new ≡ old) → IfErr r (λ e. OnBad e (NoPayBegins (spelling f) s.out bytes at))
    → SaysOfOne f s t bytes at old new r
pay-says f s t m bytes at old new (Ok n) is pays again kept none =
    one-said f s t m bytes at n old new (pay_word (spelling (other_than f)) again.payloads again.sets again.names) is
    pays.keeps again.written
    (λ rest. pays.twice (from_format f) s _ _ (pay-twice (from_format f) s bytes at n old new rest again))
pay-says f s t m bytes at old new (Err e) is pays again kept none =
    none-said f s t m bytes at old new e is pays.keeps kept (on_bad-weaker e no none)
  where
    no : NoPayBegins (spelling f) s.out bytes at → (next : ℕ) (h : Holding)
        → BeginsBy (spelling f) s m bytes at next h → ⊥
    no none next h begins =
        let there = pays.begins (spelling f) s bytes at next h begins in none next there.0 there.1
