-- Stores written and read through the bytes of the other format.
--
-- The key idea: what stands twice begins in both or in neither; so what is read of the one is what stands in the other.
use Rattle.std.proofs.Common.{◌≡◌, ℕ, ◌-◌, ◌≤◌, ◌++◌, List, [], ◌∷◌, length, get_or, take, drop, sym, ap}
use Rattle.std.proofs.Common.{subst, ◌∙◌, append_assoc, arith}
use Rattle.std.proofs.Math.Seq.{take-append_seam}
use Rattle.std.proofs.lemmas.List.{append-nil, take_all}
use Rattle.sz_cells.specs.Cells.{Cells}
use Rattle.sz_spec.specs.declared.modes.Strategy.{Strategy}
use Rattle.sz_spec.specs.declared.modes.Strategy.TheVariants as strategy
use Rattle.sz_spec.specs.Shapes.{Site}
use Rattle.sz_region.specs.declared.set_bytes.Take.{Take}
use Rattle.sz_region.specs.declared.set_bytes.Take.TheVariants.{Bad, NoMemory}
use Rattle.sz_region.specs.LawsStores.{AreRight}
use Rattle.sz_region.specs.Stores.{OnBad}
use Rattle.sz_store.specs.Kept.{Keep, stored_in}
use Rattle.sz_store.specs.Words.{BeginEach, NoneBegin, SaysNone}
use Rattle.sz_formats.specs.Formats.{spelling}
use Rattle.sz_formats.specs.Twice.{Span, AreTwice, from_format, span}
use Rattle.sz_formats.specs.Words.{BeginEachBy, BeginEachIn, NoneBeginIn}
use Rattle.sz_formats.proofs.Known.{format-known}
use Rattle.sz_formats.proofs.Twice.{turned}
use Rattle.sz_formats.proofs.Each.{each-turned, each-within, each-too, each-then, none-first, none-behind, stored-first}
use Rattle.sz_formats.proofs.Each.{each-as-before}
use Rattle.sz_formats.proofs.Said.{spelled-long}

-- ---- one strategy and the others

-- a list that is not empty
abbrev pub first_of : List Strategy → Strategy
first_of list = get_or list 0 strategy.Map

abbrev pub others_of : List Strategy → List Strategy
others_of list = take (length list - 1) (drop 1 list)

pub first-rest : (list : List Strategy) → 1 ≤ length list → list ≡ first_of list ∷ others_of list
first-rest [] some = absurd (omega arith)
first-rest (t ∷ ts) some =
    ap (λ (us : List Strategy). t ∷ us) (sym (take_all (length (t ∷ ts) - 1) ts (omega arith)))

-- a store was written, and the others behind it
pub each-more : (f : ℕ) (s : Site) (t : Strategy) (ts list : List Strategy) (bytes : List ℕ) (at place n : ℕ)
    (old mid new more rest : List ℕ) → list ≡ t ∷ ts → new ≡ mid ++ more
    → ((r : List ℕ) → AreTwice (from_format f) s (stored_in (t ∷ [])) (span bytes at place)
    (span (mid ++ r) (length old) (length mid)))
    → AreTwice (from_format f) s (stored_in ts) (span bytes place n) (span (new ++ rest) (length mid) (length new))
    → AreTwice (from_format f) s (stored_in list) (span bytes at n) (span (new ++ rest) (length old) (length new))
each-more f s t ts list bytes at place n old mid new more rest is front first second =
    let all : mid ++ (more ++ rest) ≡ new ++ rest =
    sym (append_assoc mid more rest) ∙ ap (λ (w : List ℕ). w ++ rest) (sym front) in
    let here : AreTwice (from_format f) s (stored_in (t ∷ [])) (span bytes at place)
    (span (new ++ rest) (length old) (length mid)) =
    subst (λ (w : List ℕ). AreTwice (from_format f) s (stored_in (t ∷ [])) (span bytes at place)
    (span w (length old) (length mid))) all (first (more ++ rest)) in
    subst (λ (us : List Strategy). AreTwice (from_format f) s us (span bytes at n)
    (span (new ++ rest) (length old) (length new))) (sym (ap stored_in is ∙ stored-first t ts))
    (each-then (from_format f) s (stored_in (t ∷ [])) (stored_in ts) (span bytes at n)
    (span (new ++ rest) (length old) (length new)) place (length mid) here second)

-- where the first is not there, none are
pub none-at-once : (f : ℕ) (s : Site) (t : Strategy) (ts list : List Strategy) (bytes : List ℕ) (at : ℕ)
    → list ≡ t ∷ ts → NoneBeginIn f s (stored_in (t ∷ [])) bytes at → NoneBeginIn f s (stored_in list) bytes at
none-at-once f s t ts list bytes at is none =
    subst (λ (us : List Strategy). NoneBeginIn f s us bytes at) (sym (ap stored_in is ∙ stored-first t ts))
    (none-first (spelling f) s (stored_in (t ∷ [])) (stored_in ts) bytes at none)

-- nor where the others are not there behind it
pub none-after : (f : ℕ) (s : Site) (t : Strategy) (ts list : List Strategy) (bytes : List ℕ) (at place : ℕ) (y : Span)
    → list ≡ t ∷ ts → AreRight (s.out ∷ s.ins)
    → AreTwice (from_format f) s (stored_in (t ∷ [])) (span bytes at place) y
    → NoneBeginIn f s (stored_in ts) bytes place → NoneBeginIn f s (stored_in list) bytes at
none-after f s t ts list bytes at place y is right are none =
    subst (λ (us : List Strategy). NoneBeginIn f s us bytes at) (sym (ap stored_in is ∙ stored-first t ts))
    (none-behind (from_format f) (format-known f) s (stored_in (t ∷ [])) (stored_in ts) (span bytes at place) y right
    are none)

-- ---- written in format 2, by the bytes of format 1

-- what was put behind some bytes is taken away again
pub cut-back : (old new more cut : List ℕ) (n : ℕ) → n ≡ length old → new ≡ old ++ more → cut ≡ take n new → cut ≡ old
cut-back old new more cut n long is taken =
    taken ∙ ap (λ (k : ℕ). take k new) long ∙ ap (λ (w : List ℕ). take (length old) w) is ∙ take-append_seam old more

-- the bytes of stores stand in themselves
written-alone : (s : Site) (ts : List Strategy) (old wide : List ℕ) (fs : List Keep) → old ≡ []
    → ((rest : List ℕ) → BeginEach s ts (wide ++ rest) (length old) (length wide) fs)
    → BeginEach s ts wide 0 (length wide) fs
written-alone s ts old wide fs none begin =
    subst (λ (w : List ℕ). BeginEach s ts w 0 (length wide) fs) (append-nil wide)
    (subst (λ (o : List ℕ). BeginEach s ts (wide ++ []) (length o) (length wide) fs) none (begin []))

-- what was written of stores that stand in the bytes of format 1
short-written : (s : Site) (ts : List Strategy) (wide : List ℕ) (n k : ℕ) (y : Span) (fs : List Keep)
    → AreRight (s.out ∷ s.ins) → AreTwice (from_format 1) s ts (span wide 0 n) y → BeginEach s ts wide 0 k fs
    → BeginEachIn 2 s ts y.bytes y.at y.next fs
short-written s ts wide n k y fs right are begin =
    (each-too (from_format 1) (format-known 1) s ts (span wide 0 n) y k fs right are
    ((each-as-before s ts wide 0 k fs).1 begin)).1

pub put-read : (s op : Site) (list lent : List Strategy) (none wide bytes : List ℕ) (n : ℕ) (y : Span) (fs : List Keep)
    → op ≡ s → lent ≡ list → bytes ≡ wide → none ≡ [] → AreRight (op.out ∷ op.ins)
    → ((rest : List ℕ) → BeginEach s (stored_in list) (wide ++ rest) (length none) (length wide) fs)
    → AreTwice (from_format 1) op (stored_in lent) (span bytes 0 n) y
    → BeginEachIn 2 s (stored_in list) y.bytes y.at y.next fs
put-read s op list lent none wide bytes n y fs same_op same_list same_bytes empty right begin are =
    short-written s (stored_in list) wide n (length wide) y fs
    (subst (λ (x : Site). AreRight (x.out ∷ x.ins)) same_op right)
    (subst (λ (x : Site). AreTwice (from_format 1) x (stored_in list) (span wide 0 n) y) same_op
    (subst (λ (us : List Strategy). AreTwice (from_format 1) op (stored_in us) (span wide 0 n) y) same_list
    (subst (λ (w : List ℕ). AreTwice (from_format 1) op (stored_in lent) (span w 0 n) y) same_bytes are)))
    (written-alone s (stored_in list) none wide fs empty begin)

-- stores that stand there are not refused
pub put-refused : (s op : Site) (list lent : List Strategy) (none wide bytes : List ℕ) (fs : List Keep) (e : Take)
    (place : ℕ) → op ≡ s → lent ≡ list → bytes ≡ wide → none ≡ []
    → ((rest : List ℕ) → BeginEach s (stored_in list) (wide ++ rest) (length none) (length wide) fs)
    → e ≡ Bad place → OnBad e (NoneBeginIn 1 op (stored_in lent) bytes 0) → ⊥
put-refused s op list lent none wide bytes fs e place same_op same_list same_bytes empty begin bad says =
    let refused : NoneBeginIn 1 op (stored_in lent) bytes 0 =
    subst (λ (x : Take). OnBad x (NoneBeginIn 1 op (stored_in lent) bytes 0)) bad says in
    let here : NoneBeginIn 1 s (stored_in list) wide 0 =
    subst (λ (x : Site). NoneBeginIn 1 x (stored_in list) wide 0) same_op
    (subst (λ (us : List Strategy). NoneBeginIn 1 op (stored_in us) wide 0) same_list
    (subst (λ (w : List ℕ). NoneBeginIn 1 op (stored_in lent) w 0) same_bytes refused)) in
    here (length wide) fs
    ((each-as-before s (stored_in list) wide 0 (length wide) fs).1
    (written-alone s (stored_in list) none wide fs empty begin))

-- ---- read in format 2, by the bytes of format 1

-- stores of format 2 in the bytes of format 1, and nothing else
pub alone : (s op : Site) (ts : List Strategy) (bytes : List ℕ) (at n : ℕ) (none wide word : List ℕ) → op ≡ s
    → word ≡ wide → none ≡ []
    → ((rest : List ℕ) → AreTwice (from_format 2) op ts (span bytes at n)
    (span (wide ++ rest) (length none) (length wide)))
    → AreTwice (from_format 2) s ts (span bytes at n) (span word 0 (length word))
alone s op ts bytes at n none wide word same_op same_word empty are =
    subst (λ (x : Site). AreTwice (from_format 2) x ts (span bytes at n) (span word 0 (length word))) same_op
    (subst (λ (w : List ℕ). AreTwice (from_format 2) op ts (span bytes at n) (span w 0 (length w))) (sym same_word)
    (subst (λ (w : List ℕ). AreTwice (from_format 2) op ts (span bytes at n) (span w 0 (length wide)))
    (append-nil wide)
    (subst (λ (o : List ℕ). AreTwice (from_format 2) op ts (span bytes at n)
    (span (wide ++ []) (length o) (length wide))) empty (are []))))

-- what was read of those stands there in format 2
pub short-read : (s : Site) (ts : List Strategy) (bytes : List ℕ) (at n : ℕ) (word : List ℕ) (k : ℕ) (fs : List Keep)
    → AreRight (s.out ∷ s.ins) → AreTwice (from_format 2) s ts (span bytes at n) (span word 0 (length word))
    → BeginEach s ts word 0 k fs → BeginEachIn 2 s ts bytes at n fs
short-read s ts bytes at n word k fs right are begin =
    (each-too (turned (from_format 2)) (format-known 1) s ts (span word 0 (length word)) (span bytes at n) k fs right
    (each-turned (from_format 2) s ts (span bytes at n) (span word 0 (length word)) are)
    ((each-as-before s ts word 0 k fs).1 begin)).1

-- they end within the bytes
pub short-within : (s : Site) (ts : List Strategy) (bytes : List ℕ) (at n : ℕ) (y : Span)
    → AreTwice (from_format 2) s ts (span bytes at n) y → at ≤ length bytes → n ≤ length bytes
short-within s ts bytes at n y are inside = each-within (from_format 2) s ts (span bytes at n) y are inside

-- and where none were read, none stand there
pub short-refused : (s : Site) (ts : List Strategy) (bytes : List ℕ) (at n : ℕ) (word : List ℕ) (e : Take)
    → AreRight (s.out ∷ s.ins) → AreTwice (from_format 2) s ts (span bytes at n) (span word 0 (length word))
    → SaysNone (NoneBegin s ts word 0) 0 e → OnBad e (NoneBeginIn 2 s ts bytes at)
short-refused s ts bytes at n word (Bad place) right are says =
    λ next fs begin. says.1 (length word) fs ((each-as-before s ts word 0 (length word) fs).0
    (each-too (from_format 2) (format-known 2) s ts (span bytes at n) (span word 0 (length word)) next fs right are
    begin).1)
short-refused s ts bytes at n word NoMemory right are says = tt

-- ---- in any other format

-- stores in the bytes of format 1
pub long-each : (f : ℕ) → (f ≡ 2 → ⊥) → (s : Site) (ts : List Strategy) (bytes : List ℕ) (at next : ℕ)
    (fs : List Keep) → BeginEach s ts bytes at next fs → BeginEachIn f s ts bytes at next fs
long-each f other s ts bytes at next fs begin =
    subst (λ (spell : Cells → List ℕ). BeginEachBy spell s ts bytes at next fs) (sym (spelled-long f other))
    ((each-as-before s ts bytes at next fs).1 begin)

-- and where none were read, none stand there
pub long-refused : (f : ℕ) → (f ≡ 2 → ⊥) → (s : Site) (ts : List Strategy) (bytes : List ℕ) (at : ℕ) (e : Take)
    → SaysNone (NoneBegin s ts bytes at) at e → OnBad e (NoneBeginIn f s ts bytes at)
long-refused f other s ts bytes at (Bad place) says =
    λ next fs begin. says.1 next fs ((each-as-before s ts bytes at next fs).0
    (subst (λ (spell : Cells → List ℕ). BeginEachBy spell s ts bytes at next fs) (spelled-long f other) begin))
long-refused f other s ts bytes at NoMemory says = tt
