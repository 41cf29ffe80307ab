-- A walk along the entries of one key, from the last of them down.
--
-- The key idea: what the entries from a number on add is a test of cells. Between two entries of the key none has it,
-- so the step to the one before widens the test by just what its item adds, and past the first of them it is what all
-- add.
use Rattle.std.proofs.Common.{inl, inr, true≢false, ◌≡◌, ◌≢◌, ℕ, zero, suc, ◌+◌, ◌-◌, ◌<◌, ◌≤◌, ◌==◌}
use Rattle.std.proofs.Common.{Bool, true, false, ◌&&◌, ◌||◌, List, [], ◌∷◌, ◌++◌, map, Some, None, Option}
use Rattle.std.proofs.Common.{length, take, drop, get_or, refl, sym, ap, ap₂, subst, ◌∙◌, arith, eq-eqb, ne_eqb}
use Rattle.std.proofs.Common.{drop-cons}
use Rattle.std.specs.Prelude.{MatchOption}
use Rattle.std.specs.List.{list_any, HoldsAt, AllWithin}
use Rattle.std.proofs.Math.Bool.{or-false}
use Rattle.std.proofs.Math.ListN.{get_or-eq_default}
use Rattle.std.proofs.lemmas.Bool.{cases_Bool, cases_lt}
use Rattle.sz_cells.specs.declared.Cell.{Cell}
use Rattle.sz_cells.specs.Extent.{holds, size_of}
use Rattle.sz_cells.specs.Cells.{Cells, has, with_those}
use Rattle.sz_cells.specs.Rising.{AreRising}
use Rattle.sz_frame.proofs.Added.{with-none, with-ext, with-more, own-at}
use Rattle.sz_tables.specs.Filed.{Filed, IsLastBelow}
use Rattle.sz_full_one.specs.ByCells.{IsDone}

-- what the items of the entries of a key add
abbrev pub found : ℕ → (ℕ → Cell → Bool) → List Filed → Cell → Bool
found key adds entries x = list_any (λ e. (e.key == key) && adds e.item x) entries

-- from which entry on a walk has been, by the next one of the key
abbrev pub reached : Option ℕ → ℕ
reached None = 0
reached (Some n) = n + 1

-- a walk has added to a set what the entries from there on add, and stands at an entry of the key
pub record Walked (entries : List Filed) (key : ℕ) (adds : ℕ → Cell → Bool) (set to : Cells) (next : Option ℕ)
    : Type 0 where
  pub here : MatchOption next (Unit {0}) (λ n. HoldsAt (λ e. e.key ≡ key) entries n)
  pub added : to ≡ with_those set (found key adds (drop (reached next) entries))

-- past the end of a list nothing is said of every element
past-end : (entries : List Filed) (key n : ℕ) → ((d : Filed) → (get_or entries n d).key ≡ key) → n < length entries
past-end entries key n holds =
    elim (cases_lt n (length entries)) [
      | inl inside ↦ inside
      | inr past ↦
          let other : Filed = record { key = key + 1; item = 0 } in
          let same = ap (λ (e : Filed). e.key) (get_or-eq_default entries other {n = n} past) in
          absurd (omega (arith, same, holds other))
    ]

pub is-inside : (entries : List Filed) (key n : ℕ) → HoldsAt (λ e. e.key ≡ key) entries n → n < length entries
is-inside entries key n holds = past-end entries key n holds

-- entries of other keys add nothing
skip-others : (entries : List Filed) (key : ℕ) (adds : ℕ → Cell → Bool) (x : Cell) (count low high : ℕ)
    → low + count ≡ high → AllWithin (λ e. e.key ≢ key) entries low high
    → found key adds (drop low entries) x ≡ found key adds (drop high entries) x
skip-others entries key adds x zero low high at others =
    let same : low ≡ high = omega arith in
    ap (λ (n : ℕ). found key adds (drop n entries) x) same
skip-others entries key adds x (suc count) low high at others =
    let none : Filed = record { key = key; item = 0 } in
    elim (cases_lt low (length entries)) [
      | inl inside ↦
          let one : low + 1 ≡ suc low = omega arith in
          let off = ne_eqb (get_or entries low none).key key (others low none (omega arith) (omega arith)) in
          ap (λ (es : List Filed). found key adds es x) (drop-cons entries low none inside)
          ∙ (rw off (ap (λ (n : ℕ). found key adds (drop n entries) x) (sym one)
          ∙ skip-others entries key adds x count (low + 1) high (omega arith)
          (λ k d above below. others k d (omega arith) below)))
      | inr past ↦
          let same = ap (λ (e : Filed). e.key) (get_or-eq_default entries none {n = low} past) in
          absurd (others low none (omega arith) (omega arith) same)
    ]

-- the next entry of the key is where the walk goes on
goes-on : (entries : List Filed) (key : ℕ) (adds : ℕ → Cell → Bool) (x : Cell) (end : ℕ) (next : Option ℕ)
    → IsLastBelow entries key end next
    → found key adds (drop (reached next) entries) x ≡ found key adds (drop end entries) x
goes-on entries key adds x end None last = skip-others entries key adds x end 0 end (omega arith) last
goes-on entries key adds x end (Some n) last =
    skip-others entries key adds x (end - (n + 1)) (n + 1) end (omega (arith, last.0)) last.2

stands : (entries : List Filed) (key end : ℕ) (next : Option ℕ) → IsLastBelow entries key end next
    → MatchOption next (Unit {0}) (λ n. HoldsAt (λ e. e.key ≡ key) entries n)
stands entries key end None last = tt
stands entries key end (Some n) last = last.1

-- the walk comes down
pub comes-down : (entries : List Filed) (key end : ℕ) (next : Option ℕ) → IsLastBelow entries key end next
    → reached next < end + 1
comes-down entries key end None last = omega arith
comes-down entries key end (Some n) last = omega (arith, last.0)

-- past the end there is no entry
past-all : (entries : List Filed) → drop (length entries) entries ≡ []
past-all [] = refl
past-all (e ∷ entries) = past-all entries

-- before the first step nothing was added
pub walk-start : (entries : List Filed) (key : ℕ) (adds : ℕ → Cell → Bool) (set : Cells) (next : Option ℕ)
    → AreRising 0 (size_of set.extent) set.indexes → IsLastBelow entries key (length entries) next
    → Walked entries key adds set set next
walk-start entries key adds set next rises last = record {
  here = stands entries key (length entries) next last;
  added = with-none set (found key adds (drop (reached next) entries)) (own-at set set.extent refl rises)
      (λ x held.
      goes-on entries key adds x (length entries) next last
      ∙ ap (λ (es : List Filed). found key adds es x) (past-all entries));
}

or-swap : (a b : Bool) → (a || b) ≡ (b || a)
or-swap true true = refl
or-swap true false = refl
or-swap false true = refl
or-swap false false = refl

-- an entry of the key adds what its item adds
adds-item : (entries : List Filed) (key item : ℕ) (adds : ℕ → Cell → Bool) (x : Cell) (n : ℕ)
    → HoldsAt (λ e. e.key ≡ key) entries n → HoldsAt (λ e. e.item ≡ item) entries n
    → (found key adds (drop (n + 1) entries) x || adds item x) ≡ found key adds (drop n entries) x
adds-item entries key item adds x n here is =
    let none : Filed = record { key = 0; item = 0 } in
    let one : n + 1 ≡ suc n = omega arith in
    let on = eq-eqb (get_or entries n none).key key (here none) in
    ap (λ (m : ℕ). found key adds (drop m entries) x || adds item x) one
    ∙ or-swap (found key adds (drop (suc n) entries) x) (adds item x)
    ∙ sym (ap (λ (es : List Filed). found key adds es x) (drop-cons entries n none (is-inside entries key n here))
    ∙ (rw (on, is none) refl))

-- one entry more
pub walk-next : (entries : List Filed) (key item : ℕ) (adds : ℕ → Cell → Bool) (set to new : Cells)
    (at next : Option ℕ) (n : ℕ) → Walked entries key adds set to at → at ≡ Some n
    → HoldsAt (λ e. e.item ≡ item) entries n → new ≡ with_those to (adds item) → IsLastBelow entries key n next
    → Walked entries key adds set new next
walk-next entries key item adds set to new at next n walked some is more last =
    let here : HoldsAt (λ e. e.key ≡ key) entries n =
    subst (λ (o : Option ℕ). MatchOption o (Unit {0}) (λ m. HoldsAt (λ e. e.key ≡ key) entries m)) some walked.here in
    let before : to ≡ with_those set (found key adds (drop (n + 1) entries)) =
    subst (λ (o : Option ℕ). to ≡ with_those set (found key adds (drop (reached o) entries))) some walked.added in
    record {
      here = stands entries key n next last;
      added = more
          ∙ ap (λ (s : Cells). with_those s (adds item)) before
          ∙ with-more set (found key adds (drop (n + 1) entries)) (adds item)
          (found key adds (drop (reached next) entries))
          (λ x held. adds-item entries key item adds x n here is ∙ sym (goes-on entries key adds x n next last));
    }

-- at an entry, it is one of the list, and of the key
pub walk-here : (entries : List Filed) (key : ℕ) (adds : ℕ → Cell → Bool) (set to : Cells) (at : Option ℕ) (n : ℕ)
    → Walked entries key adds set to at → at ≡ Some n → HoldsAt (λ e. e.key ≡ key) entries n
walk-here entries key adds set to at n walked some =
    subst (λ (o : Option ℕ). MatchOption o (Unit {0}) (λ m. HoldsAt (λ e. e.key ≡ key) entries m)) some walked.here

-- where no entry is left, all were added
pub walk-end : (entries : List Filed) (key : ℕ) (adds : ℕ → Cell → Bool) (set to : Cells) (at : Option ℕ)
    (test : Cell → Bool) → Walked entries key adds set to at → at ≡ None
    → ((x : Cell) → holds set.extent x ≡ true → found key adds entries x ≡ test x) → to ≡ with_those set test
walk-end entries key adds set to at test walked none same =
    subst (λ (o : Option ℕ). to ≡ with_those set (found key adds (drop (reached o) entries))) none walked.added
    ∙ with-ext set (found key adds entries) test same

-- ---- what was added last

-- what was added just now is there
pub done-now : (adds : ℕ → Cell → Bool) (n : ℕ) (to new : Cells) → new ≡ with_those to (adds n)
    → IsDone adds (Some n) new
done-now adds n to new is =
    is
    ∙ sym
    (ap (λ (s : Cells). with_those s (adds n)) is
    ∙ with-more to (adds n) (adds n) (adds n)
    (λ x held. elim (cases_Bool (adds n x)) [ inl t ↦ rw t refl | inr f ↦ rw f refl ]))
