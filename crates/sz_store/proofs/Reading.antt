-- Stores whose bytes stand one after another.
--
-- The key idea: at most one store of a mode begins at a place, and it ends at one place within the bytes. So what is
-- read
-- of a front of a list is the front of every reading of the list.
use Rattle.std.proofs.Common.{◌≡◌, ℕ, ◌+◌, ◌≤◌, true, false, List, [], ◌∷◌, ◌++◌, length, map, drop}
use Rattle.std.proofs.Common.{append_assoc, Bool, refl, sym, subst, ap, ap₂, ◌∙◌, arith, length-append}
use Rattle.std.specs.Prelude.{All}
use Rattle.std.proofs.lemmas.List.{drop-drop}
use Rattle.std.proofs.lemmas.List.Elements.{All-head, All-tail}
use Rattle.std.proofs.Math.Seq.{drop-append_seam}
use Rattle.sz_cells.specs.Cells.{Cells}
use Rattle.sz_cells.specs.Extent.{Extent, is_extent}
use Rattle.sz_spec.specs.declared.modes.Mode.{Mode}
use Rattle.sz_spec.specs.declared.modes.Mode.TheVariants as mode
use Rattle.sz_spec.specs.declared.modes.Strategy.{Strategy}
use Rattle.sz_spec.specs.Shapes.{Site}
use Rattle.sz_spec.specs.Modes.{mode_of}
use Rattle.sz_region.specs.LawsStores.{AreRight}
use Rattle.sz_region.proofs.FullStores.{regions-one, regions-read}
use Rattle.sz_region.proofs.PayStores.{entries-one}
use Rattle.sz_frame.specs.Parts.{Entry}
use Rattle.sz_region.specs.PayBytes.{BeginsEntries, IsPayWord}
use Rattle.sz_region.specs.declared.set_bytes.Take.{Take}
use Rattle.sz_region.specs.declared.set_bytes.Take.TheVariants.{Bad, NoMemory}
use Rattle.sz_payload.specs.Begins.{AreLawful, BeginsPayloads, SaysNoPayloads}
use Rattle.sz_store.specs.Kept.{Holding, regions, entries, Keep, stored_in}
use Rattle.sz_store.specs.Laws.{OneListOfStoresBegins, WrittenStoresAreRead}
use Rattle.sz_store.specs.Stocks.{IsOfItsMode, mode_in}
use Rattle.sz_store.specs.Words.{IsWordOf, AreWordsOf, Begins, BeginEach, NoneBegins, SaysNone}

-- payloads that are the operator's begin where entries do
pub payloads-begin : (s : Site) (bytes : List ℕ) (at next : ℕ) (es : List Entry) → BeginsPayloads s bytes at next es
    → BeginsEntries s.out bytes at next es
payloads-begin s bytes at next es begins = record {
  payloads = begins.payloads;
  sets = begins.sets;
  word = begins.word;
  rest = begins.rest;
  is_word = begins.is_word;
  spelled = begins.spelled;
  ends = begins.ends;
}

-- where no such payloads begin, no store of entries does
pub none-begin : (s : Site) (comp : Bool) (bytes : List ℕ) (at : ℕ) (e : Take) → SaysNoPayloads s bytes at e
    → SaysNone (NoneBegins s (mode_in (entries comp [])) bytes at) at e
none-begin s comp bytes at NoMemory none = tt
none-begin s true bytes at (Bad place) none = (
  none.0,
  λ next h begins.
      elim h as (λ k. Begins s mode.Comp bytes at next k → ⊥) [
        | regions rs ↦ λ begin. begin
        | entries own es ↦
            elim own as (λ c. Begins s mode.Comp bytes at next (entries c es) → ⊥) [
              | true ↦ λ begin. none.1 next es begin
              | false ↦ λ begin. begin
            ]
      ] begins,
)
none-begin s false bytes at (Bad place) none = (
  none.0,
  λ next h begins.
      elim h as (λ k. Begins s mode.Pay bytes at next k → ⊥) [
        | regions rs ↦ λ begin. begin
        | entries own es ↦
            elim own as (λ c. Begins s mode.Pay bytes at next (entries c es) → ⊥) [
              | true ↦ λ begin. begin
              | false ↦ λ begin. none.1 next es begin
            ]
      ] begins,
)

payloads-one : (s : Site) (bytes : List ℕ) (at a b : ℕ) (es fs : List Entry) → AreRight (s.out ∷ s.ins)
    → BeginsPayloads s bytes at a es → BeginsPayloads s bytes at b fs → a ≤ length bytes → b ≤ length bytes
    → (es ≡ fs) × (a ≡ b)
payloads-one s bytes at a b es fs right first second low high =
    entries-one s.out bytes at a b es fs (All-head (λ (e : Extent). is_extent e ≡ true) s.out s.ins right)
    (payloads-begin s bytes at a es first) (payloads-begin s bytes at b fs second) low high

-- one store begins, and it ends at one place
begins-one : (s : Site) (m : Mode) (bytes : List ℕ) (at a b : ℕ) (h k : Holding) → AreRight (s.out ∷ s.ins)
    → Begins s m bytes at a h → Begins s m bytes at b k → a ≤ length bytes → b ≤ length bytes → (h ≡ k) × (a ≡ b)
begins-one s mode.Full bytes at a b (regions rs) (regions qs) right first second low high =
    let one = regions-one s.out s.ins bytes at a b rs qs right first second low high in
    (ap regions one.0, one.1)
begins-one s mode.Full bytes at a b (regions rs) (entries comp es) right first second low high = absurd second
begins-one s mode.Full bytes at a b (entries comp es) k right first second low high = absurd first
begins-one s mode.Pay bytes at a b (regions rs) k right first second low high = absurd first
begins-one s mode.Pay bytes at a b (entries true es) k right first second low high = absurd first
begins-one s mode.Pay bytes at a b (entries false es) (regions qs) right first second low high = absurd second
begins-one s mode.Pay bytes at a b (entries false es) (entries true fs) right first second low high = absurd second
begins-one s mode.Pay bytes at a b (entries false es) (entries false fs) right first second low high =
    let one = payloads-one s bytes at a b es fs right first second low high in
    (ap (entries false) one.0, one.1)
begins-one s mode.Comp bytes at a b (regions rs) k right first second low high = absurd first
begins-one s mode.Comp bytes at a b (entries false es) k right first second low high = absurd first
begins-one s mode.Comp bytes at a b (entries true es) (regions qs) right first second low high = absurd second
begins-one s mode.Comp bytes at a b (entries true es) (entries false fs) right first second low high = absurd second
begins-one s mode.Comp bytes at a b (entries true es) (entries true fs) right first second low high =
    let one = payloads-one s bytes at a b es fs right first second low high in
    (ap (entries true) one.0, one.1)
begins-one s mode.Map bytes at a b h k right first second low high = absurd first
begins-one s mode.BlackBox bytes at a b h k right first second low high = absurd first

-- stores of one list, and behind them those of another
pub each-append : (s : Site) (ts us : List Strategy) (bytes : List ℕ) (a b c : ℕ) (xs ys : List Keep)
    → BeginEach s ts bytes a b xs → BeginEach s us bytes b c ys → BeginEach s (ts ++ us) bytes a c (xs ++ ys)
each-append s [] us bytes a b c [] ys first second = subst (λ (n : ℕ). BeginEach s us bytes n c ys) first second
each-append s [] us bytes a b c (x ∷ xs) ys first second = absurd first
each-append s (t ∷ ts) us bytes a b c [] ys first second = absurd first
each-append s (t ∷ ts) us bytes a b c (x ∷ xs) ys first second = (
  first.0,
  first.1,
  first.2,
  first.3,
  each-append s ts us bytes first.0 b c xs ys first.4 second,
)

-- where those of a front are read, the others begin behind them in every reading
pub each-behind : (s : Site) (ts us : List Strategy) (bytes : List ℕ) (a b c : ℕ) (xs zs : List Keep)
    → AreRight (s.out ∷ s.ins) → BeginEach s ts bytes a b xs → BeginEach s (ts ++ us) bytes a c zs
    → (ys : List Keep) × BeginEach s us bytes b c ys
each-behind s [] us bytes a b c [] zs right first whole =
    (zs, subst (λ (n : ℕ). BeginEach s us bytes n c zs) (sym first) whole)
each-behind s [] us bytes a b c (x ∷ xs) zs right first whole = absurd first
each-behind s (t ∷ ts) us bytes a b c [] zs right first whole = absurd first
each-behind s (t ∷ ts) us bytes a b c (x ∷ xs) [] right first whole = absurd whole
each-behind s (t ∷ ts) us bytes a b c (x ∷ xs) (z ∷ zs) right first whole =
    let same : whole.0 ≡ first.0 =
    (begins-one s (mode_of t) bytes a whole.0 first.0 z.holding x.holding right whole.3 first.3 whole.1 first.1).1 in
    each-behind s ts us bytes first.0 b c xs zs right first.4
    (subst (λ (n : ℕ). BeginEach s (ts ++ us) bytes n c zs) same whole.4)

-- one list of stores begins
keep-same : (f g : Keep) → f.strategy ≡ g.strategy → f.holding ≡ g.holding → f ≡ g
keep-same f g strategy holding =
    let make : Strategy → Holding → Keep = λ t h. record { strategy = t; holding = h } in
    ap₂ make strategy holding

pub stores-one : OneListOfStoresBegins
stores-one s [] bytes at next other [] [] right first second = (refl, first ∙ sym second)
stores-one s [] bytes at next other [] (z ∷ zs) right first second = absurd second
stores-one s [] bytes at next other (x ∷ xs) zs right first second = absurd first
stores-one s (t ∷ ts) bytes at next other [] zs right first second = absurd first
stores-one s (t ∷ ts) bytes at next other (x ∷ xs) [] right first second = absurd second
stores-one s (t ∷ ts) bytes at next other (x ∷ xs) (z ∷ zs) right first second =
    let one =
    begins-one s (mode_of t) bytes at second.0 first.0 z.holding x.holding right second.3 first.3 second.1 first.1 in
    let rest = stores-one s ts bytes first.0 next other xs zs right first.4
    (subst (λ (n : ℕ). BeginEach s ts bytes n other zs) one.1 second.4) in (
      ap₂ (λ (f : Keep) (fs : List Keep). f ∷ fs) (keep-same x z (first.2 ∙ sym second.2) (sym one.0)) rest.0,
      rest.1,
    )

-- a front of every reading is one of the front
pub each-front : (s : Site) (ts us : List Strategy) (bytes : List ℕ) (a c : ℕ) (zs : List Keep)
    → BeginEach s (ts ++ us) bytes a c zs → (b : ℕ) × (xs : List Keep) × BeginEach s ts bytes a b xs
each-front s [] us bytes a c zs whole = (a, [], refl)
each-front s (t ∷ ts) us bytes a c [] whole = absurd whole
each-front s (t ∷ ts) us bytes a c (z ∷ zs) whole =
    let rest = each-front s ts us bytes whole.0 c zs whole.4 in
    (rest.0, z ∷ rest.1, (whole.0, whole.1, whole.2, whole.3, rest.2))

-- they end within the bytes
pub each-within : (s : Site) (ts : List Strategy) (bytes : List ℕ) (a b : ℕ) (fs : List Keep)
    → BeginEach s ts bytes a b fs → a ≤ length bytes → b ≤ length bytes
each-within s [] bytes a b [] begin low = subst (λ (n : ℕ). n ≤ length bytes) (sym begin) low
each-within s [] bytes a b (f ∷ fs) begin low = absurd begin
each-within s (t ∷ ts) bytes a b [] begin low = absurd begin
each-within s (t ∷ ts) bytes a b (f ∷ fs) begin low = each-within s ts bytes begin.0 b fs begin.4 begin.1

-- words of some stores, and behind them those of others
pub words-append : (s : Site) (xs ys : List Keep) (a b : List ℕ) → AreWordsOf s xs a → AreWordsOf s ys b
    → AreWordsOf s (xs ++ ys) (a ++ b)
words-append s [] ys a b first second = rw first second
words-append s (x ∷ xs) ys a b first second = (
  first.0,
  first.1 ++ b,
  first.2,
  words-append s xs ys first.1 b first.3 second,
  rw first.4 (append_assoc first.0 first.1 b),
)

-- ---- what is written is read

payloads-written : (s : Site) (payloads : List (List ℕ)) (sets : List Cells) (es : List Entry)
    (before word rest : List ℕ) → AreLawful s payloads → IsPayWord s.out payloads sets es word
    → BeginsPayloads s (before ++ (word ++ rest)) (length before) (length before + length word) es
payloads-written s payloads sets es before word rest lawful is =
    let bytes = before ++ (word ++ rest) in
    let here : drop (length before) bytes ≡ word ++ rest = drop-append_seam before (word ++ rest) in
    record {
      payloads = payloads;
      sets = sets;
      word = word;
      rest = rest;
      is_word = is;
      lawful = lawful;
      spelled = here;
      ends = sym (drop-drop (length word) (length before) bytes) ∙ ap (drop (length word)) here
          ∙ drop-append_seam word rest;
    }

word-begins : (s : Site) (h : Holding) (before word rest : List ℕ) → AreRight (s.out ∷ s.ins) → IsWordOf s h word
    → Begins s (mode_in h) (before ++ (word ++ rest)) (length before) (length before + length word) h
word-begins s (regions rs) before word rest right is =
    (regions-read s.out s.ins is.0 rs before word rest right is.2).0
word-begins s (entries true es) before word rest right is =
    payloads-written s is.0 is.1 es before word rest is.4 is.5
word-begins s (entries false es) before word rest right is =
    payloads-written s is.0 is.1 es before word rest is.4 is.5

-- behind other bytes the word of a store begins it, whatever follows
pub word-read : (s : Site) (f : Keep) (old new word rest : List ℕ) → AreRight (s.out ∷ s.ins) → IsOfItsMode f
    → IsWordOf s f.holding word → new ≡ old ++ word
    → Begins s (mode_of f.strategy) (new ++ rest) (length old) (length new) f.holding
word-read s f old new word rest right mode is added =
    let h = f.holding in
    let bytes : old ++ (word ++ rest) ≡ new ++ rest =
    sym (append_assoc old word rest) ∙ ap (λ (xs : List ℕ). xs ++ rest) (sym added) in
    let end : length old + length word ≡ length new = sym (ap length added ∙ length-append old word) in
    subst (λ (m : Mode). Begins s m (new ++ rest) (length old) (length new) h) (sym mode)
    (subst (λ (bs : List ℕ). Begins s (mode_in h) bs (length old) (length new) h) bytes
    (subst (λ (n : ℕ). Begins s (mode_in h) (old ++ (word ++ rest)) (length old) n h) end
    (word-begins s h old word rest right is)))

-- the words of some stores begin them
pub words-begin : (s : Site) (fs : List Keep) (before words rest : List ℕ) → AreRight (s.out ∷ s.ins)
    → All IsOfItsMode fs → AreWordsOf s fs words
    → BeginEach s (map (λ f. f.strategy) fs) (before ++ (words ++ rest)) (length before)
    (length before + length words) fs
words-begin s [] before words rest right modes are = omega (arith, ap length are)
words-begin s (f ∷ fs) before words rest right modes are =
    let word = are.0 in
    let more = are.1 in
    let ts = map (λ (g : Keep). g.strategy) fs in
    let front : before ++ (words ++ rest) ≡ before ++ (word ++ (more ++ rest)) =
    ap (λ (xs : List ℕ). before ++ (xs ++ rest)) are.4
    ∙ ap (λ (xs : List ℕ). before ++ xs) (append_assoc word more rest) in
    let behind : (before ++ word) ++ (more ++ rest) ≡ before ++ (words ++ rest) =
    append_assoc before word (more ++ rest) ∙ sym front in
    let place : length (before ++ word) ≡ length before + length word = length-append before word in
    let long : length words ≡ length word + length more = ap length are.4 ∙ length-append word more in
    let end : length (before ++ word) + length more ≡ length before + length words = omega (arith, place, long) in
    let own : Begins s (mode_of f.strategy) (before ++ (word ++ (more ++ rest))) (length before)
    (length before + length word) f.holding =
    subst (λ (m : Mode). Begins s m (before ++ (word ++ (more ++ rest))) (length before) (length before + length word)
    f.holding) (sym (All-head IsOfItsMode f fs modes)) (word-begins s f.holding before word (more ++ rest) right are.2)
    in
    let others = words-begin s fs (before ++ word) more rest right (All-tail IsOfItsMode f fs modes) are.3 in (
      length before + length word,
      omega (arith, long, length-append before (words ++ rest), length-append words rest),
      refl,
      subst (λ (bs : List ℕ). Begins s (mode_of f.strategy) bs (length before) (length before + length word) f.holding)
          (sym front) own,
      subst (λ (bs : List ℕ). BeginEach s ts bs (length before + length word) (length before + length words) fs) behind
          (subst (λ (n : ℕ). BeginEach s ts ((before ++ word) ++ (more ++ rest)) n (length before + length words) fs)
          place
          (subst (λ (n : ℕ). BeginEach s ts ((before ++ word) ++ (more ++ rest)) (length (before ++ word)) n fs) end
          others)),
    )

-- behind other bytes they are the stores of a list
pub put-begins : (s : Site) (list : List Strategy) (fs : List Keep) (old new words rest : List ℕ)
    → AreRight (s.out ∷ s.ins) → All IsOfItsMode fs → map (λ f. f.strategy) fs ≡ stored_in list → AreWordsOf s fs words
    → new ≡ old ++ words → BeginEach s (stored_in list) (new ++ rest) (length old) (length new) fs
put-begins s list fs old new words rest right modes listed are is =
    let ts = map (λ (f : Keep). f.strategy) fs in
    let bytes : old ++ (words ++ rest) ≡ new ++ rest =
    sym (append_assoc old words rest) ∙ ap (λ (xs : List ℕ). xs ++ rest) (sym is) in
    let end : length old + length words ≡ length new = sym (ap length is ∙ length-append old words) in
    subst (λ (us : List Strategy). BeginEach s us (new ++ rest) (length old) (length new) fs) listed
    (subst (λ (bs : List ℕ). BeginEach s ts bs (length old) (length new) fs) bytes
    (subst (λ (n : ℕ). BeginEach s ts (old ++ (words ++ rest)) (length old) n fs) end
    (words-begin s fs old words rest right modes are)))

pub stores-read : WrittenStoresAreRead
stores-read s fs before words rest right modes are =
    let begin = words-begin s fs before words rest right modes are in (
      begin,
      λ other next read.
          stores-one s (map (λ f. f.strategy) fs) (before ++ (words ++ rest)) (length before) next
          (length before + length words) other fs right read begin,
    )
