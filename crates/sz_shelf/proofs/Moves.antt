-- Each kind of step keeps the rule, and tells what it says.
-- Key idea: the rule names who is in a turn and how far. A step out of turn changes no part of it; one in turn is made
-- by that seat alone, so each other seat is idle and knows a beginning of the list, which only grows.
use Rattle.std.proofs.Common.{◌≡◌, ◌==◌, ℕ, zero, suc, ◌≤◌, ◌||◌, List, [], ◌∷◌, set, length}
use Rattle.std.proofs.Common.{sym, refl, ap, ap₂, ◌∙◌, subst, arith, true, false, Bool, ⊎_elim, length-set, eq-eqb}
use Rattle.std.proofs.Common.{ne_eqb, ◌⊎◌, inl, inr, None, ◌++◌}
use Rattle.std.proofs.lemmas.List.{set-get_or}
use mathlib.Core.Option.{Option, none, some, some-injective, some-ne-none}
use mathlib.Core.Bool.{true≢false}
use mathlib.Core.Logic.{dite}
use native.Mathlib.Decide.{ℕ_discrete}
use prog.Atomic.{either}
use lib.ListN.{get_elem?}
use Rattle.std.specs.Prelude.{slice_index}
use Rattle.atomic_table.specs.Table.{step, opening, keeps, takes, gives, Act, Allows, Valid, stepped}
use Rattle.atomic_table.specs.Table.{carried_after, Splits, Joins}
use Rattle.atomic_table.proofs.Lists.{at_set, at_snoc, at_longer, set_again, set_else, exchanged}
use Rattle.sz_shelf.specs.Tags.{Tag, tag_pieces}
use Rattle.sz_shelf.specs.Contents.{Contents, missing_in}
use Rattle.sz_shelf.specs.declared.rule.View.{View}
use Rattle.sz_shelf.specs.declared.rule.Stage.{Stage}
use Rattle.sz_shelf.specs.declared.rule.Stage.TheVariants.{Idle, InTurn, StoreOut, Spent}
use Rattle.sz_shelf.specs.Rule.{Table, Own, IsKept, Knows, Begins, ArePieces, is_busy, has_store, is_spent, flag_of}
use Rattle.sz_shelf.specs.Rule.{last_of}
use Rattle.sz_shelf.specs.Rule.{count_of, contents, first_view, spent_view}
use Rattle.sz_shelf.specs.Steps.{IsTry, IsTaking, IsCounting, IsGiving, IsReleasing, IsLoad, Grows, after_win}
use Rattle.sz_shelf.specs.Steps.{after_release, after_take, after_count, after_load, after_split, parted_view}
use Rattle.sz_shelf.specs.Steps.{after_join}
use Rattle.sz_shelf.proofs.Lists.{begins-all, begins-push, begins-through, longer-begins, pieces-push, set_there}
use Rattle.sz_shelf.proofs.Lists.{two-of}

-- who is in no turn has no store
idle-never-store : (d : Stage) → is_busy d ≡ false → has_store d ≡ false
idle-never-store Idle e = refl
idle-never-store InTurn e = absurd (true≢false e)
idle-never-store StoreOut e = absurd (true≢false e)
idle-never-store Spent e = refl

pub store-busy : (d : Stage) → has_store d ≡ true → is_busy d ≡ true
store-busy Idle e = absurd (true≢false (sym e))
store-busy InTurn e = absurd (true≢false (sym e))
store-busy StoreOut e = refl
store-busy Spent e = absurd (true≢false (sym e))

-- the flag is 0 or 1, and it is 0 where nobody is in a turn
flag-zero : (d : Stage) → flag_of d ≡ 0 → is_busy d ≡ false
flag-zero Idle e = refl
flag-zero InTurn e = absurd (omega (arith, e))
flag-zero StoreOut e = absurd (omega (arith, e))
flag-zero Spent e = refl

flag-one : (d : Stage) → ¬ (flag_of d ≡ 0) → flag_of d ≡ 1
flag-one Idle never = absurd (never refl)
flag-one InTurn never = refl
flag-one StoreOut never = refl
flag-one Spent never = absurd (never refl)

pub contrary : {X : Type 0} (b : Bool) → b ≡ true → b ≡ false → X
contrary b so never = absurd (true≢false (sym so ∙ never))

-- the count has its last value exactly where there is a seal
pub last-tells : (t : Tag) (placed : List ℕ) (sealed : Bool) → length placed ≤ tag_pieces t
    → sealed ≡ (count_of t placed sealed == last_of t)
last-tells t placed true few = sym (eq-eqb (last_of t) (last_of t) refl)
last-tells t placed false few =
    sym (ne_eqb (length placed) (last_of t) (λ e. absurd (omega (arith, e, few))))

-- a seat in a turn stays where it is while an idle one changes
turn-stays : (l : List View) (who id : ℕ) (doing : Stage) (v w : View) → get_elem? l id ≡ some v
    → is_busy v.stage ≡ false → is_busy doing ≡ true
    → (u : View) × (get_elem? l who ≡ some u) × (u.stage ≡ doing)
    → (u : View) × (get_elem? (set l id w) who ≡ some u) × (u.stage ≡ doing)
turn-stays l who id doing v w at idle busy (u, there, is) = dite (ℕ_discrete who id)
    (λ same. let one : v ≡ u = some-injective v u (sym at ∙ ap (get_elem? l) (sym same) ∙ there) in
    contrary (is_busy doing) busy (ap is_busy (sym is) ∙ ap (λ (x : View). is_busy x.stage) (sym one) ∙ idle))
    (λ other. (u, set_else l id who w other ∙ there, is))

-- a step may be told for the tag that the seat's view has
for-tag : (t : Tag) (slots id i : ℕ) (m : Own) (f : ℕ → ℕ) (then : ℕ → Own → Type 0) → is_spent m.0.stage ≡ false
    → Allows (IsKept m.0.tag) slots id m i f then → Allows (IsKept t) slots id m i f then
for-tag t slots id i m f then here all s g wide me small =
    let tag : m.0.tag ≡ t = (g.each id m.0 me here).tag in
    subst (λ (x : Tag). (w : View) × (a : Act Contents) × Valid s.homes m.1 a
    × IsKept x (stepped s i (f (slice_index s.words i)) id m.1 w a)
    × then (slice_index s.words i) (w, carried_after m.1 a))
    tag (all s (subst (λ (x : Tag). IsKept x s) (sym tag) g) wide me small)

-- a word is written as it was
word-stays : (t : Tag) (s : Table) (i : ℕ) (h : List _) (l : List View)
    → IsKept t record { words = s.words; homes = h; views = l }
    → IsKept t record { words = set s.words i (slice_index s.words i); homes = h; views = l }
word-stays t s i h l g =
    subst (λ (w : List ℕ). IsKept t record { words = w; homes = h; views = l }) (sym (set-get_or s.words i 0)) g

idle-here : (d : Stage) → d ≡ Idle → is_spent d ≡ false
idle-here d e = ap is_spent e

-- ---- what the rule asks, of a state that a step leaves

-- a seat that knows all that is placed, and whether there is a seal
knows-all : (id : ℕ) (v : View) → Knows v.tag v.seen v.saw id v.stage id v
knows-all id v = record {
  tag = refl;
  begins = begins-all v.seen;
  saw = λ e. e;
  busy = λ _. (refl, refl);
  out = λ _. (refl, refl);
}

-- an idle seat knows a beginning of the list, and a seal only if there is one
pub knows-idle : (t : Tag) (placed : List ℕ) (sealed : Bool) (who : ℕ) (doing : Stage) (seat : ℕ) (v : View)
    → v.stage ≡ Idle → v.tag ≡ t → Begins v.seen placed → (v.saw ≡ true → sealed ≡ true)
    → Knows t placed sealed who doing seat v
knows-idle t placed sealed who doing seat v idle tag begins saw = record {
  tag = tag;
  begins = begins;
  saw = saw;
  busy = λ e. contrary (is_busy v.stage) e (ap is_busy idle);
  out = λ e. contrary (has_store v.stage) e (ap has_store idle);
}

-- what is so of the seat that changed, and of each other one, is so of each
each-seat : (Is : ℕ → View → Type 0) (l : List View) (id : ℕ) (w : View) → (is_spent w.stage ≡ false → Is id w)
    → ((j : ℕ) (v : View) → ¬ (j ≡ id) → get_elem? l j ≡ some v → is_spent v.stage ≡ false → Is j v)
    → (j : ℕ) (v : View) → get_elem? (set l id w) j ≡ some v → is_spent v.stage ≡ false → Is j v
each-seat Is l id w this others j v at unspent = ⊎_elim
    (λ h. subst (Is j) h.1
    (subst (λ (n : ℕ). Is n w) (sym h.0) (this (ap (λ (x : View). is_spent x.stage) h.1 ∙ unspent))))
    (λ h. others j v h.0 h.1 unspent)
    (at_set l id j w v at)

-- where views alone change, the seat in turn keeps its own, and each knows what it may, the rule is kept
with-views : (t : Tag) (s : Table) (l : List View) (g : IsKept t s)
    → (is_busy g.doing ≡ true → (v : View) × (get_elem? l g.who ≡ some v) × (v.stage ≡ g.doing))
    → ((j : ℕ) (v : View) → get_elem? l j ≡ some v → is_spent v.stage ≡ false
    → Knows t g.placed g.sealed g.who g.doing j v)
    → IsKept t record { words = s.words; homes = s.homes; views = l }
with-views t s l g turn each = record {
  placed = g.placed;
  sealed = g.sealed;
  who = g.who;
  doing = g.doing;
  two = g.two;
  flag = g.flag;
  count = g.count;
  pieces = g.pieces;
  few = g.few;
  whole = g.whole;
  home = g.home;
  out = g.out;
  turn = turn;
  each = each;
}

-- an idle seat becomes one that knows what it may
idle-becomes : (t : Tag) (id : ℕ) (v w : View) (s : Table) (g : IsKept t s) → get_elem? s.views id ≡ some v
    → v.stage ≡ Idle → (is_spent w.stage ≡ false → Knows t g.placed g.sealed g.who g.doing id w)
    → IsKept t record { words = s.words; homes = s.homes; views = set s.views id w }
idle-becomes t id v w s g me idle knows =
    with-views t s (set s.views id w) g
    (λ b. turn-stays s.views g.who id g.doing v w me (ap is_busy idle) b (g.turn b))
    (each-seat (Knows t g.placed g.sealed g.who g.doing) s.views id w knows (λ j u other at. g.each j u at))

-- what is placed once a turn added to it, and the seal
record Added (t : Tag) (s : Table) (g : IsKept t s) (placed : List ℕ) (sealed : Bool) : Type 0 where
  begins : Begins g.placed placed
  seal : g.sealed ≡ true → sealed ≡ true
  pieces : ArePieces t placed
  few : length placed ≤ tag_pieces t
  whole : sealed ≡ true → missing_in (tag_pieces t) placed ≡ None

added-none : (t : Tag) (s : Table) (g : IsKept t s) → Added t s g g.placed g.sealed
added-none t s g = record {
  begins = begins-all g.placed;
  seal = λ e. e;
  pieces = g.pieces;
  few = g.few;
  whole = g.whole;
}

-- A seat makes a step of its turn, and no other is in one: it has a new view, and each other seat knows what it knew.
turn-step : (t : Tag) (s : Table) (g : IsKept t s) (id : ℕ) (v w : View) (words : List ℕ)
    (homes : List (Option Contents)) (placed : List ℕ) (sealed : Bool) → get_elem? s.views id ≡ some v
    → (is_busy g.doing ≡ true → g.who ≡ id) → Added t s g placed sealed → length words ≡ 2
    → slice_index words 0 ≡ flag_of w.stage → slice_index words 1 ≡ count_of t placed sealed
    → (has_store w.stage ≡ false → get_elem? homes 0 ≡ some (some (contents t placed sealed)))
    → (has_store w.stage ≡ true → get_elem? homes 0 ≡ some none) → Knows t placed sealed id w.stage id w
    → IsKept t record { words = words; homes = homes; views = set s.views id w }
turn-step t s g id v w words homes placed sealed me alone more two flag count home out knows = record {
  placed = placed;
  sealed = sealed;
  who = id;
  doing = w.stage;
  two = two;
  flag = flag;
  count = count;
  pieces = more.pieces;
  few = more.few;
  whole = more.whole;
  home = home;
  out = out;
  turn = λ _. (w, set_there s.views id v w me, refl);
  each = each-seat (Knows t placed sealed id w.stage) s.views id w (λ _. knows) (λ j u other at unspent.
      let k = g.each j u at unspent in
      let never : is_busy u.stage ≡ true → ⊥ = λ b.
      other ((k.busy b).0 ∙ alone (ap is_busy (sym (k.busy b).1) ∙ b)) in record {
        tag = k.tag;
        begins = begins-through u.seen g.placed placed k.begins more.begins;
        saw = λ e. more.seal (k.saw e);
        busy = λ b. absurd (never b);
        out = λ b. absurd (never (store-busy u.stage b));
      });
}

-- the same where it goes to a stage without the store, and nothing is added
turn-goes : (t : Tag) (s : Table) (g : IsKept t s) (id : ℕ) (v : View) (stage : Stage) (words : List ℕ)
    (homes : List (Option Contents)) → get_elem? s.views id ≡ some v → is_spent v.stage ≡ false
    → (is_busy g.doing ≡ true → g.who ≡ id) → has_store stage ≡ false → length words ≡ 2
    → slice_index words 0 ≡ flag_of stage → slice_index words 1 ≡ slice_index s.words 1
    → get_elem? homes 0 ≡ some (some (contents t g.placed g.sealed))
    → IsKept t record { words = words; homes = homes; views = set s.views id (record v { stage = stage }) }
turn-goes t s g id v stage words homes me unspent alone never two flag count home =
    let k = g.each id v me unspent in
    turn-step t s g id v (record v { stage = stage }) words homes g.placed g.sealed me alone (added-none t s g) two flag
    (count ∙ g.count) (λ _. home) (λ e. contrary (has_store stage) e never) record {
      tag = k.tag;
      begins = k.begins;
      saw = k.saw;
      busy = λ _. (refl, refl);
      out = λ e. contrary (has_store stage) e never;
    }

-- ---- the kinds of step

-- an idle seat tries to win the turn
pub tries-keep : (t : Tag) (slots id : ℕ) (m : Own) → m.0.stage ≡ Idle
    → Allows (IsKept t) slots id m 0 (λ k. either (k == 0) 1 k) (IsTry (step slots 0 0 1 none) m)
tries-keep t slots id m idle s g wide me _ =
    let word : ℕ = slice_index s.words 0 in
    let tells : ℕ → Own → Type 0 = IsTry (step slots 0 0 1 none) m in
    exchanged word 0 1
    (λ k. (w : View) × (a : Act Contents) × Valid s.homes m.1 a × IsKept t (stepped s 0 k id m.1 w a)
    × tells word (w, carried_after m.1 a))
    (λ free.
    let still = flag-zero g.doing (sym g.flag ∙ free) in
    let two = two-of s.words 1 g.two in (
      after_win m.0,
      keeps,
      tt,
      turn-goes t s g id m.0 InTurn (set s.words 0 1) s.homes me (idle-here _ idle)
          (λ b. contrary (is_busy g.doing) b still) refl (length-set s.words 0 1 ∙ g.two) two.0 two.1
          (g.home (idle-never-store g.doing still)),
      record {
        word = (refl, refl, refl);
        idle = idle;
        win = λ _. refl;
        loss = λ never. absurd (never free);
      },
    ))
    (λ held. (
      m.0,
      keeps,
      tt,
      word-stays t s 0 s.homes (set s.views id m.0)
          (subst (λ (l : List View). IsKept t record { words = s.words; homes = s.homes; views = l })
          (sym (set_again s.views id m.0 me)) g),
      record {
        word = (refl, refl, refl);
        idle = idle;
        win = λ free. absurd (held free);
        loss = λ never. (g.flag ∙ flag-one g.doing (λ z. never (g.flag ∙ z)), refl);
      },
    ))

-- a seat in its turn takes the store
takes-here : (slots id : ℕ) (m : Own) → m.0.stage ≡ InTurn
    → Allows (IsKept m.0.tag) slots id m 1 (λ k. k) (IsTaking (step slots 1 0 0 none) m)
takes-here slots id m won s g wide me _ =
    let t : Tag = m.0.tag in
    let mine = g.each id m.0 me (ap is_spent won) in
    let here = mine.busy (ap is_busy won) in
    let doing : InTurn ≡ g.doing = sym won ∙ here.1 in
    let c : Contents = contents t g.placed g.sealed in
    let home = g.home (ap has_store (sym doing)) in
    let w : View = after_take c m.0 in (
      w,
      takes 0 c,
      home,
      word-stays t s 1 (set s.homes 0 none) (set s.views id w)
          (turn-step t s g id m.0 w s.words (set s.homes 0 none) g.placed g.sealed me (λ _. sym here.0)
          (added-none t s g) g.two (g.flag ∙ ap flag_of (sym doing)) g.count (λ e. absurd (true≢false e))
          (λ _. set_there s.homes 0 (some c) none home) (knows-all id w)),
      record {
        word = (refl, refl, refl);
        turn = won;
        store = c;
        is = record {
          tag = refl;
          begins = mine.begins;
          pieces = g.pieces;
          last = last-tells t g.placed g.sealed g.few ∙ ap (λ n. n == last_of t) (sym g.count);
          whole = g.whole;
          saw = mine.saw;
        };
        after = refl;
      },
    )

pub takes-keep : (t : Tag) (slots id : ℕ) (m : Own) → m.0.stage ≡ InTurn
    → Allows (IsKept t) slots id m 1 (λ k. k) (IsTaking (step slots 1 0 0 none) m)
takes-keep t slots id m won =
    for-tag t slots id 1 m (λ k. k) (IsTaking (step slots 1 0 0 none) m) (ap is_spent won)
    (takes-here slots id m won)

-- what is told where a seat that has the store counts what it did to it
pub counting : (slots count : ℕ) (m : Own) (c : Contents) → m.1 ≡ (0, c) ∷ [] → m.0.stage ≡ StoreOut → m.0.saw ≡ false
    → Grows m.0 c → count ≡ count_of m.0.tag c.placed c.sealed
    → IsCounting (step slots 1 count 0 none) m (after_count c m.0, m.1)
counting slots count m c out turn unsealed grows is = record {
  store = c;
  out = out;
  turn = turn;
  unsealed = unsealed;
  word = (refl, is);
  grows = grows;
  after = refl;
}

counts-here : (slots id count : ℕ) (m : Own) (c : Contents) → m.1 ≡ (0, c) ∷ [] → m.0.stage ≡ StoreOut → m.0.saw ≡ false
    → Grows m.0 c → count ≡ count_of m.0.tag c.placed c.sealed
    → Allows (IsKept m.0.tag) slots id m 1 (λ _. count) (λ _ n. IsCounting (step slots 1 count 0 none) m n)
counts-here slots id count m c out turn unsealed grows is s g wide me _ =
    let t : Tag = m.0.tag in
    let mine = g.each id m.0 me (ap is_spent turn) in
    let here = mine.busy (ap is_busy turn) in
    let known = mine.out (ap has_store turn) in
    let two = two-of s.words count g.two in
    let seen : ArePieces t m.0.seen = subst (ArePieces t) (sym known.0) g.pieces in
    let w : View = after_count c m.0 in (
      w,
      keeps,
      tt,
      turn-step t s g id m.0 w (set s.words 1 count) s.homes c.placed c.sealed me (λ _. sym here.0) record {
        begins = subst (λ (l : List ℕ). Begins l c.placed) known.0 (⊎_elim
            (λ p. subst (Begins m.0.seen) (sym p.1.placed) (begins-push m.0.seen p.0))
            (λ p. subst (Begins m.0.seen) (sym p.placed) (begins-all m.0.seen)) grows);
        seal = λ e. contrary g.sealed e (sym known.1 ∙ unsealed);
        pieces = ⊎_elim
            (λ p. subst (ArePieces t) (sym p.1.placed) (pieces-push t m.0.seen p.0 seen p.1.new p.1.inside))
            (λ p. subst (ArePieces t) (sym p.placed) seen) grows;
        few = ⊎_elim (λ p. p.1.few)
            (λ p. subst (λ (l : List ℕ). length l ≤ tag_pieces t) (sym known.0 ∙ sym p.placed) g.few) grows;
        whole = λ e. ⊎_elim (λ p. contrary c.sealed e p.1.sealed)
            (λ p. ap (missing_in (tag_pieces t)) p.placed ∙ p.whole) grows;
      }
          (length-set s.words 1 count ∙ g.two) (two.3 ∙ g.flag ∙ ap flag_of (sym here.1)) (two.2 ∙ is)
          (λ e. contrary (has_store m.0.stage) (ap has_store turn) e)
          (λ _. g.out (ap has_store (sym here.1 ∙ turn))) (knows-all id w),
      counting slots count m c out turn unsealed grows is,
    )

pub counts-keep : (t : Tag) (slots id count : ℕ) (m : Own) (c : Contents) → m.1 ≡ (0, c) ∷ [] → m.0.stage ≡ StoreOut
    → m.0.saw ≡ false → Grows m.0 c → count ≡ count_of m.0.tag c.placed c.sealed
    → Allows (IsKept t) slots id m 1 (λ _. count) (λ _ n. IsCounting (step slots 1 count 0 none) m n)
counts-keep t slots id count m c out turn unsealed grows is =
    for-tag t slots id 1 m (λ _. count) (λ _ n. IsCounting (step slots 1 count 0 none) m n) (ap is_spent turn)
    (counts-here slots id count m c out turn unsealed grows is)

-- a seat gives the store back
gives-here : (slots id : ℕ) (m : Own) → m.1 ≡ (0, contents m.0.tag m.0.seen m.0.saw) ∷ [] → m.0.stage ≡ StoreOut
    → Allows (IsKept m.0.tag) slots id m 1 (λ k. k) (λ _ n. IsGiving (step slots 1 0 0 none) m n)
gives-here slots id m out turn =
    subst (λ (x : Own). Allows (IsKept m.0.tag) slots id x 1 (λ k. k) (λ _ n. IsGiving (step slots 1 0 0 none) x n))
    (ap (λ l. (m.0, l)) (sym out))
    (λ s g wide me _.
    let t : Tag = m.0.tag in
    let mine = g.each id m.0 me (ap is_spent turn) in
    let here = mine.busy (ap is_busy turn) in
    let doing : StoreOut ≡ g.doing = sym turn ∙ here.1 in
    let known = mine.out (ap has_store turn) in
    let c : Contents = contents t m.0.seen m.0.saw in
    let same : c ≡ contents t g.placed g.sealed = ap₂ (contents t) known.0 known.1 in
    let home = set_there s.homes 0 none (some c) (g.out (ap has_store (sym doing))) in (
      after_win m.0,
      gives,
      tt,
      word-stays t s 1 (set s.homes 0 (some c)) (set s.views id (after_win m.0))
          (turn-goes t s g id m.0 InTurn s.words (set s.homes 0 (some c)) me (ap is_spent turn) (λ _. sym here.0) refl
          g.two (g.flag ∙ ap flag_of (sym doing)) refl (home ∙ ap (λ (x : Contents). some (some x)) same)),
      record { word = (refl, refl, refl); turn = turn; store = refl; after = refl },
    ))

pub gives-keep : (t : Tag) (slots id : ℕ) (m : Own) → m.1 ≡ (0, contents m.0.tag m.0.seen m.0.saw) ∷ []
    → m.0.stage ≡ StoreOut
    → Allows (IsKept t) slots id m 1 (λ k. k) (λ _ n. IsGiving (step slots 1 0 0 none) m n)
gives-keep t slots id m out turn =
    for-tag t slots id 1 m (λ k. k) (λ _ n. IsGiving (step slots 1 0 0 none) m n) (ap is_spent turn)
    (gives-here slots id m out turn)

-- a seat ends its turn
pub releases-keep : (t : Tag) (slots id : ℕ) (m : Own) → m.0.stage ≡ InTurn
    → Allows (IsKept t) slots id m 0 (λ _. 0) (λ _ n. IsReleasing (step slots 0 0 0 none) m n)
releases-keep t slots id m turn s g wide me _ =
    let here = (g.each id m.0 me (ap is_spent turn)).busy (ap is_busy turn) in
    let doing : InTurn ≡ g.doing = sym turn ∙ here.1 in
    let two = two-of s.words 0 g.two in (
      after_release m.0,
      keeps,
      tt,
      turn-goes t s g id m.0 Idle (set s.words 0 0) s.homes me (ap is_spent turn) (λ _. sym here.0) refl
          (length-set s.words 0 0 ∙ g.two) two.0 two.1 (g.home (ap has_store (sym doing))),
      record { word = (refl, refl); turn = turn; after = refl },
    )

-- a seat out of turn may know more of what there is
knows-more : (t : Tag) (id : ℕ) (v w : View) (s : Table) (g : IsKept t s) → get_elem? s.views id ≡ some v
    → v.stage ≡ Idle → w.tag ≡ v.tag → w.stage ≡ v.stage → Begins w.seen g.placed → (w.saw ≡ true → g.sealed ≡ true)
    → IsKept t record { words = s.words; homes = s.homes; views = set s.views id w }
knows-more t id v w s g me idle tag stage begins saw =
    idle-becomes t id v w s g me idle (λ _.
    knows-idle t g.placed g.sealed g.who g.doing id w (stage ∙ idle) (tag ∙ (g.each id v me (ap is_spent idle)).tag)
    begins saw)

or-either : (a b : Bool) → (a || b) ≡ true → (a ≡ true) ⊎ (b ≡ true)
or-either true b e = inl refl
or-either false b e = inr e

-- an idle seat loads the count
loads-here : (slots id : ℕ) (m : Own) → m.0.stage ≡ Idle
    → Allows (IsKept m.0.tag) slots id m 1 (λ k. k) (IsLoad (step slots 1 0 0 none) m)
loads-here slots id m idle s g wide me _ =
    let t : Tag = m.0.tag in
    let found : ℕ = slice_index s.words 1 in
    let mine = g.each id m.0 me (ap is_spent idle) in
    let w : View = after_load found m.0 in (
      w,
      keeps,
      tt,
      word-stays t s 1 s.homes (set s.views id w) (knows-more t id m.0 w s g me idle refl refl mine.begins
          (λ e. ⊎_elim mine.saw
          (λ a. last-tells t g.placed g.sealed g.few ∙ ap (λ n. n == last_of t) (sym g.count) ∙ a)
          (or-either m.0.saw (found == last_of t) e))),
      record {
        word = (refl, refl, refl);
        idle = idle;
        saw = λ e. g.count ∙ ap (λ b. count_of t g.placed b) (mine.saw e);
        after = refl;
      },
    )

pub loads-keep : (t : Tag) (slots id : ℕ) (m : Own) → m.0.stage ≡ Idle
    → Allows (IsKept t) slots id m 1 (λ k. k) (IsLoad (step slots 1 0 0 none) m)
loads-keep t slots id m idle =
    for-tag t slots id 1 m (λ k. k) (IsLoad (step slots 1 0 0 none) m) (ap is_spent idle)
    (loads-here slots id m idle)

-- a seat more knows what one that is split knows
pub splits-keep : (t : Tag) (id : ℕ) (v : View) → v.stage ≡ Idle
    → Splits (IsKept t) id v (after_split v) (parted_view v)
splits-keep t id v idle s g me =
    let w : View = after_split v in
    let new : View = parted_view v in
    let l : List View = set s.views id w in
    let was = g.each id v me (ap is_spent idle) in
    let k = knows-more t id v w s g me idle refl refl was.begins was.saw in
    let mine = k.each id w (set_there s.views id v w me) (ap is_spent idle) in
    with-views t record { words = s.words; homes = s.homes; views = l } (l ++ new ∷ []) k
    (λ b. let u = k.turn b in (u.0, at_longer l (new ∷ []) k.who u.0 u.1, u.2))
    (λ j u at unspent. ⊎_elim
    (λ h. k.each j u h unspent)
    (λ e. subst (Knows t k.placed k.sealed k.who k.doing j) e
    (knows-idle t k.placed k.sealed k.who k.doing j new idle mine.tag mine.begins mine.saw))
    (at_snoc l new u j at))

-- a seat that is spent leaves the rule
spends : (t : Tag) (other : ℕ) (w : View) (s : Table) → IsKept t s → get_elem? s.views other ≡ some w → w.stage ≡ Idle
    → IsKept t record { words = s.words; homes = s.homes; views = set s.views other spent_view }
spends t other w s g me idle = idle-becomes t other w spent_view s g me idle (λ e. absurd (true≢false e))

-- an idle seat takes in what another idle one knows
pub joins-keep : (t : Tag) (id : ℕ) (v : View) (other : ℕ) (w : View) → v.stage ≡ Idle → w.stage ≡ Idle
    → Joins (IsKept t) id v other w (after_join v w) spent_view
joins-keep t id v other w idle spare s g me apart them =
    let both : View = after_join v w in
    let mine = g.each id v me (ap is_spent idle) in
    let theirs = g.each other w (sym (set_else s.views id other both apart) ∙ them) (ap is_spent spare) in
    spends t other w record { words = s.words; homes = s.homes; views = set s.views id both }
    (knows-more t id v both s g me idle refl refl (longer-begins v.seen w.seen g.placed mine.begins theirs.begins)
    (λ e. ⊎_elim mine.saw theirs.saw (or-either v.saw w.saw e)))
    them spare

-- ---- a table on its own

-- what lies in the slot, while the store is out or not
abbrev pub slot_of : Bool → Contents → Option Contents
slot_of true c = none
slot_of false c = some c

-- the table as its first seat knows it
abbrev pub known_table : View → List View → Table
known_table v more = record {
  words = flag_of v.stage ∷ count_of v.tag v.seen v.saw ∷ [];
  homes = slot_of (has_store v.stage) (contents v.tag v.seen v.saw) ∷ [];
  views = v ∷ more;
}

-- the rule holds where the first seat knows all that is placed, and no other one is in a turn
pub first-keeps : (v : View) (more : List View) → ArePieces v.tag v.seen → length v.seen ≤ tag_pieces v.tag
    → (v.saw ≡ true → missing_in (tag_pieces v.tag) v.seen ≡ None)
    → ((n : ℕ) (u : View) → get_elem? more n ≡ some u → Knows v.tag v.seen v.saw 0 v.stage (suc n) u)
    → IsKept v.tag (known_table v more)
first-keeps v more pieces few whole others = record {
  placed = v.seen;
  sealed = v.saw;
  who = 0;
  doing = v.stage;
  two = refl;
  flag = refl;
  count = refl;
  pieces = pieces;
  few = few;
  whole = whole;
  home = λ e. ap (λ (b : Bool). some (slot_of b (contents v.tag v.seen v.saw))) e;
  out = λ e. ap (λ (b : Bool). some (slot_of b (contents v.tag v.seen v.saw))) e;
  turn = λ _. (v, refl, refl);
  each = λ j u at _. known j u at;
} where
  known : (j : ℕ) (u : View) → get_elem? (v ∷ more) j ≡ some u → Knows v.tag v.seen v.saw 0 v.stage j u
  known zero u at = subst (Knows v.tag v.seen v.saw 0 v.stage 0) (some-injective v u at) (knows-all 0 v)
  known (suc n) u at = others n u at

-- the same where it is the only one
pub only-keeps : (v : View) → ArePieces v.tag v.seen → length v.seen ≤ tag_pieces v.tag
    → (v.saw ≡ true → missing_in (tag_pieces v.tag) v.seen ≡ None) → IsKept v.tag (known_table v [])
only-keeps v pieces few whole = first-keeps v [] pieces few whole (λ n u at. absurd (some-ne-none u (sym at)))

-- the table at the start
pub opens : (t : Tag) (xs : List Contents) (x : Contents) → xs ≡ x ∷ [] → x ≡ contents t [] false
    → IsKept t (opening (0 ∷ 0 ∷ []) xs (first_view t))
opens t xs x one is =
    subst (λ (l : List Contents). IsKept t (opening (0 ∷ 0 ∷ []) l (first_view t)))
    (sym (one ∙ ap (λ (c : Contents). c ∷ []) is))
    (only-keeps (first_view t) (tt, λ k d h. absurd (omega (arith, h))) (omega arith)
    (λ e. absurd (true≢false (sym e))))
