-- What each kind of step changes.
-- Key idea: a table has one slot. An act on it by a seat that has nothing out takes the store or leaves all as it was,
-- and an act by the seat that has it out gives it back or leaves all as it was: which of the two, what the seat then
-- has out says.
use Rattle.std.proofs.Common.{◌≡◌, ℕ, zero, suc, ◌⊎◌, inl, inr, List, [], ◌∷◌, ◌++◌, Bool, set}
use Rattle.std.proofs.Common.{length}
use Rattle.std.proofs.Common.{sym, refl, ap, ap₂, ◌∙◌, subst, arith, ⊎_elim, eq-eqb, ne_eqb}
use Rattle.std.proofs.lemmas.List.{set-get_or}
use mathlib.Core.Option.{Option, none, some, some-injective, some-ne-none}
use mathlib.Core.Logic.{dite}
use native.Mathlib.Decide.{ℕ_discrete}
use prog.Atomic.{either}
use lib.ListN.{get_elem?}
use Rattle.std.specs.Prelude.{slice_index}
use Rattle.atomic_table.specs.Table.{Act, stepped, keeps, takes, gives, chain, rest, put_back, homes_after}
use Rattle.atomic_table.specs.Table.{carried_after, Valid}
use Rattle.atomic_table.proofs.Lists.{set_else}
use Rattle.sz_shelf.specs.Tags.{Tag}
use Rattle.sz_shelf.specs.Contents.{Contents}
use Rattle.sz_shelf.specs.declared.rule.View.{View}
use Rattle.sz_shelf.specs.declared.rule.Stage.TheVariants.{StoreOut}
use Rattle.sz_shelf.specs.Rule.{Table, Own, IsKept, has_store, is_spent, is_busy, count_of, contents}
use Rattle.sz_shelf.specs.Rule.{spent_view}
use Rattle.sz_shelf.specs.Rules.{flag_in}
use Rattle.sz_shelf.specs.Steps.{IsTry, IsTaking, IsCounting, IsGiving, IsReleasing, IsLoad, after_count, after_split}
use Rattle.sz_shelf.specs.Steps.{parted_view, after_join}
use Rattle.sz_shelf.specs.Changes.{IsWon, IsLost, IsTaken, IsCounted, IsGiven, IsReleased, IsLoaded}
use Rattle.sz_shelf.specs.Changes.{OneView, WinsOrLoses, Takes, Counts, GivesBack, Releases, Loads, Splits, Joins}
use Rattle.sz_shelf.proofs.Lists.{set_there, two-of}
use Rattle.sz_shelf.proofs.Slots.{first-out}

-- the one slot and what a seat has out: the store c is in the slot, or the seat has it
Whole : Contents → List (Option Contents) → List (ℕ × Contents) → Type 0
Whole c hs l = ((hs ≡ some c ∷ []) × (l ≡ [])) ⊎ ((hs ≡ none ∷ []) × (l ≡ (0, c) ∷ []))

only-home : (c y : Contents) (k : ℕ) → get_elem? (some c ∷ []) k ≡ some (some y) → (k ≡ 0) × (y ≡ c)
only-home c y zero e = (refl, some-injective y c (some-injective (some y) (some c) (sym e)))
only-home c y (suc k) e = absurd (some-ne-none (some y) (sym e))

none-home : {X : Type 0} (y : Contents) (k : ℕ) → get_elem? (none ∷ []) k ≡ some (some y) → X
none-home y zero e = absurd (some-ne-none y (sym (some-injective none (some y) e)))
none-home y (suc k) e = absurd (some-ne-none (some y) (sym e))

acts : (c : Contents) (a : Act Contents) (hs : List (Option Contents)) (l : List (ℕ × Contents)) → Whole c hs l
    → Valid hs l a → Whole c (homes_after hs l a) (carried_after l a)
unfolding Whole
acts c keeps hs l w v = w
acts c (takes k y) hs l (inl (e, f)) v =
    let at = only-home c y k (ap (λ (x : List (Option Contents)). get_elem? x k) (sym e) ∙ v) in
    inr (
      ap₂ (λ (x : List (Option Contents)) (i : ℕ). set x i none) e at.0,
      ap₂ (λ (x : ℕ × Contents) (r : List (ℕ × Contents)). x ∷ r) (ap₂ (λ (i : ℕ) (z : Contents). (i, z)) at.0 at.1) f,
    )
acts c (takes k y) hs l (inr (e, f)) v = none-home y k (ap (λ (x : List (Option Contents)). get_elem? x k) (sym e) ∙ v)
acts c gives hs l (inl (e, f)) v = inl (ap (put_back hs) f ∙ e, ap rest f)
acts c gives hs l (inr (e, f)) v = inl (ap₂ put_back e f, ap rest f)
acts c (chain a b) hs l w v = acts c b _ _ (acts c a hs l w v.0) v.1

-- no store is here
acts-none : (a : Act Contents) (hs : List (Option Contents)) (l : List (ℕ × Contents)) → hs ≡ none ∷ [] → l ≡ []
    → Valid hs l a → (homes_after hs l a ≡ none ∷ []) × (carried_after l a ≡ [])
acts-none keeps hs l e f v = (e, f)
acts-none (takes k y) hs l e f v = none-home y k (ap (λ (x : List (Option Contents)). get_elem? x k) (sym e) ∙ v)
acts-none gives hs l e f v = (ap (put_back hs) f ∙ e, ap rest f)
acts-none (chain a b) hs l e f v =
    let one = acts-none a hs l e f v.0 in acts-none b _ _ one.0 one.1 v.1

nothing-out : {X : Type 0} (x : ℕ × Contents) (l : List (ℕ × Contents)) → [] ≡ x ∷ l → X
nothing-out x l e = absurd (none-some (ap length e)) where
  none-some : 0 ≡ length (x ∷ l) → ⊥
  none-some h = absurd (omega (arith, h))

-- a seat that has nothing out, before and after, leaves the slot
slot-stays : (hs : List (Option Contents)) (a : Act Contents) (l : List (ℕ × Contents)) → length hs ≡ 1 → l ≡ []
    → Valid hs l a → carried_after l a ≡ [] → homes_after hs l a ≡ hs
unfolding Whole
slot-stays [] a l one out v back = absurd (omega (arith, one))
slot-stays (x ∷ y ∷ hs) a l one out v back = absurd (omega (arith, one))
slot-stays (none ∷ []) a l one out v back = (acts-none a (none ∷ []) l refl out v).0
slot-stays (some c ∷ []) a l one out v back = ⊎_elim (λ w. w.0) (λ w. nothing-out (0, c) [] (sym back ∙ w.1))
    (acts c a (some c ∷ []) l (inl (refl, out)) v)

-- a seat that had nothing out, and has the store c, took it from the slot
slot-taken : (hs : List (Option Contents)) (a : Act Contents) (l : List (ℕ × Contents)) (c : Contents) → length hs ≡ 1
    → l ≡ [] → Valid hs l a → carried_after l a ≡ (0, c) ∷ [] → (hs ≡ some c ∷ []) × (homes_after hs l a ≡ none ∷ [])
unfolding Whole
slot-taken [] a l c one out v took = absurd (omega (arith, one))
slot-taken (x ∷ y ∷ hs) a l c one out v took = absurd (omega (arith, one))
slot-taken (none ∷ []) a l c one out v took =
    nothing-out (0, c) [] (sym (acts-none a (none ∷ []) l refl out v).1 ∙ took)
slot-taken (some d ∷ []) a l c one out v took = ⊎_elim
    (λ w. nothing-out (0, c) [] (sym w.1 ∙ took))
    (λ w. (ap (λ (z : Contents). some z ∷ []) (ap (first-out d) (sym w.1 ∙ took)), w.0))
    (acts d a (some d ∷ []) l (inl (refl, out)) v)

-- one view is another's, and each other view stays
one-view : (id : ℕ) (v w : View) (s : Table) (words : List ℕ) (homes : List (Option Contents))
    → get_elem? s.views id ≡ some v
    → OneView id v w s record { words = words; homes = homes; views = set s.views id w }
one-view id v w s words homes at = record {
  before = at;
  after = set_there s.views id v w at;
  others = λ other apart. set_else s.views id other w apart;
}

-- the slot of a table that has one
one-of : (hs : List (Option Contents)) (x : Option Contents) → length hs ≡ 1 → get_elem? hs 0 ≡ some x → hs ≡ x ∷ []
one-of [] x one at = absurd (omega (arith, one))
one-of (h ∷ i ∷ hs) x one at = absurd (omega (arith, one))
one-of (h ∷ []) x one at = ap (λ (y : Option Contents). y ∷ []) (some-injective h x at)

first-slot : (hs gs : List (Option Contents)) → hs ≡ gs → get_elem? hs 0 ≡ get_elem? gs 0
first-slot hs gs e = ap (λ (l : List (Option Contents)). get_elem? l 0) e

-- while a seat has the store, the slot is empty
slot-empty : (t : Tag) (id : ℕ) (v : View) (s : Table) → IsKept t s → length s.homes ≡ 1 → get_elem? s.views id ≡ some v
    → v.stage ≡ StoreOut → s.homes ≡ none ∷ []
slot-empty t id v s g one me out =
    let mine = g.each id v me (ap is_spent out) in
    let doing = (mine.busy (ap is_busy out)).1 in
    one-of s.homes none one (g.out (ap has_store (sym doing ∙ out)))

pub tries-change : WinsOrLoses IsTry
tries-change t slots id m n s u empty st is = dite (ℕ_discrete (flag_in s) 0)
    (λ free.
    let two = two-of s.words 1 st.kept.two in
    let after : u ≡ stepped s 0 1 id m.1 n.0 st.act = st.after
    ∙ ap (λ (k : ℕ). stepped s 0 k id m.1 n.0 st.act) (ap (λ b. either b 1 (flag_in s)) (eq-eqb (flag_in s) 0 free)) in
    inl (subst (λ (x : Table). IsWon id m.0 n.0 s x) (sym after) record {
      free = free;
      flag = two.0;
      count = two.1;
      slot = first-slot _ _ (slot-stays s.homes st.act m.1 st.one empty st.valid
          (sym st.carried ∙ ap (λ (x : Own). x.1) (is.win free) ∙ empty));
      seat = one-view id m.0 n.0 s _ _ st.seat;
      idle = is.idle;
      view = ap (λ (x : Own). x.0) (is.win free);
    }))
    (λ held.
    let lost = is.loss held in
    let after : u ≡ stepped s 0 (flag_in s) id m.1 n.0 st.act = st.after
    ∙ ap (λ (k : ℕ). stepped s 0 k id m.1 n.0 st.act) (ap (λ b. either b 1 (flag_in s)) (ne_eqb (flag_in s) 0 held)) in
    inr (subst (λ (x : Table). IsLost id m.0 n.0 s x) (sym after) record {
      held = lost.0;
      words = set-get_or s.words 0 0;
      slot = first-slot _ _ (slot-stays s.homes st.act m.1 st.one empty st.valid
          (sym st.carried ∙ ap (λ (x : Own). x.1) lost.1 ∙ empty));
      seat = one-view id m.0 n.0 s _ _ st.seat;
      view = ap (λ (x : Own). x.0) lost.1;
    }))

pub takes-change : Takes IsTaking
takes-change t slots id m n s u empty st is =
    let took = slot-taken s.homes st.act m.1 is.store st.one empty st.valid
    (sym st.carried ∙ ap (λ (x : Own). x.1) is.after ∙ ap (λ (l : List (ℕ × Contents)). (0, is.store) ∷ l) empty) in
    subst (λ (x : Table). IsTaken id m.0 n.0 s x) (sym st.after) record {
      store = is.store;
      words = set-get_or s.words 1 0;
      slot = first-slot _ _ took.0;
      away = first-slot _ _ took.1;
      sealed = is.is.last;
      seat = one-view id m.0 n.0 s _ _ st.seat;
      turn = is.turn;
      view = ap (λ (x : Own). x.0) is.after;
    }

pub counts-change : Counts (λ st m _ n. IsCounting st m n)
unfolding Whole
counts-change t slots id count found m n s u st is =
    let two = two-of s.words count st.kept.two in
    let homes = slot-empty t id m.0 s st.kept st.one st.seat is.turn in
    let stays : homes_after s.homes m.1 st.act ≡ none ∷ [] = ⊎_elim
    (λ w. nothing-out (0, is.store) [] (sym w.1 ∙ sym st.carried ∙ ap (λ (x : Own). x.1) is.after ∙ is.out))
    (λ w. w.0) (acts is.store st.act s.homes m.1 (inr (homes, is.out)) st.valid) in
    let view : n.0 ≡ after_count is.store m.0 = ap (λ (x : Own). x.0) is.after in
    let stored : slice_index (set s.words 1 count) 1 ≡ count_of m.0.tag is.store.placed is.store.sealed =
    two.2 ∙ is.word.1 in
    subst (λ (x : Table). IsCounted id m.0 n.0 s x) (sym st.after) record {
      flag = two.3;
      away = first-slot _ _ homes;
      slot = first-slot _ _ (stays ∙ sym homes);
      seat = one-view id m.0 n.0 s _ _ st.seat;
      turn = is.turn;
      unsealed = is.unsealed;
      grows = ⊎_elim
          (λ p. inl (
            p.0,
            record {
              new = p.1.new;
              inside = p.1.inside;
              view = view ∙ ap₂ (λ (l : List ℕ) (b : Bool). record m.0 { seen = l; saw = b }) p.1.placed
                  (p.1.sealed ∙ sym is.unsealed);
              count = stored ∙ ap (count_of m.0.tag is.store.placed) p.1.sealed
                  ∙ ap (λ (x : View). length x.seen) (sym view);
            },
          ))
          (λ p. inr record {
            whole = p.whole;
            view = view ∙ ap₂ (λ (l : List ℕ) (b : Bool). record m.0 { seen = l; saw = b }) p.placed p.sealed;
            count = stored ∙ ap (count_of m.0.tag is.store.placed) p.sealed;
          }) is.grows;
    }

pub gives-change : GivesBack (λ st m _ n. IsGiving st m n)
unfolding Whole
gives-change t slots id found m n s u st is =
    let c : Contents = contents m.0.tag m.0.seen m.0.saw in
    let homes = slot-empty t id m.0 s st.kept st.one st.seat is.turn in
    let back : homes_after s.homes m.1 st.act ≡ some c ∷ [] = ⊎_elim (λ w. w.0)
    (λ w. nothing-out (0, c) [] (sym (ap (λ (x : Own). x.1) is.after) ∙ st.carried ∙ w.1))
    (acts c st.act s.homes m.1 (inr (homes, is.store)) st.valid) in
    subst (λ (x : Table). IsGiven id m.0 n.0 s x) (sym st.after) record {
      words = set-get_or s.words 1 0;
      away = first-slot _ _ homes;
      slot = first-slot _ _ back;
      seat = one-view id m.0 n.0 s _ _ st.seat;
      turn = is.turn;
      view = ap (λ (x : Own). x.0) is.after;
    }

pub releases-change : Releases (λ st m _ n. IsReleasing st m n)
releases-change t slots id found m n s u empty st is =
    let two = two-of s.words 0 st.kept.two in
    subst (λ (x : Table). IsReleased id m.0 n.0 s x) (sym st.after) record {
      flag = two.0;
      count = two.1;
      slot = first-slot _ _ (slot-stays s.homes st.act m.1 st.one empty st.valid
          (sym st.carried ∙ ap (λ (x : Own). x.1) is.after ∙ empty));
      seat = one-view id m.0 n.0 s _ _ st.seat;
      turn = is.turn;
      view = ap (λ (x : Own). x.0) is.after;
    }

pub loads-change : Loads IsLoad
loads-change t slots id m n s u empty st is =
    subst (λ (x : Table). IsLoaded id m.0 n.0 s x) (sym st.after) record {
      words = set-get_or s.words 1 0;
      slot = first-slot _ _ (slot-stays s.homes st.act m.1 st.one empty st.valid
          (sym st.carried ∙ ap (λ (x : Own). x.1) is.after ∙ empty));
      seat = one-view id m.0 n.0 s _ _ st.seat;
      idle = is.idle;
      view = ap (λ (x : Own). x.0) is.after;
    }

pub splits-change : Splits after_split parted_view
splits-change id v s at = record {
  words = refl;
  homes = refl;
  before = at;
  views = refl;
}

pub joins-change : Joins after_join spent_view
joins-change id spent v x s apart at there =
    let both : View = after_join v x in
    let mid : List View = set s.views id both in record {
      words = refl;
      homes = refl;
      kept_before = at;
      spent_before = there;
      kept_after = set_else mid spent id spent_view (λ e. apart (sym e)) ∙ set_there s.views id v both at;
      spent_after = (spent_view, set_there mid spent x spent_view (set_else s.views id spent both apart ∙ there), refl);
      others = λ other not_kept not_spent. set_else mid spent other spent_view not_spent
          ∙ set_else s.views id other both not_kept;
    }
