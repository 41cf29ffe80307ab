-- The rule that steps keep says what the rule read aloud says.
-- Key idea: it names how far the one busy seat is, and whether that seat has the store decides where the store is.
use Rattle.std.proofs.Common.{◌≡◌, ℕ, ◌⊎◌, inl, inr, Bool, true, false, sym, refl, ap, ◌∙◌, subst}
use Rattle.std.proofs.Common.{⊎_elim, eq-eqb, arith, if◌then◌else◌}
use mathlib.Core.Option.{none, some, some-injective, some-ne-none}
use mathlib.Core.Bool.{true≢false}
use Rattle.sz_shelf.specs.Tags.{Tag}
use Rattle.sz_shelf.specs.declared.rule.View.{View}
use Rattle.sz_shelf.specs.declared.rule.Stage.{Stage}
use Rattle.sz_shelf.specs.declared.rule.Stage.TheVariants.{Idle, InTurn, StoreOut, Spent}
use Rattle.sz_shelf.specs.Rule.{Table, IsKept, is_busy, has_store, is_spent, flag_of, count_of, contents}
use Rattle.sz_shelf.specs.Rules.{Rules, IsSeat, NoneIsBusy, OneIsBusy, NoneHasStore, IsAtHome, flag_in}
use Rattle.sz_shelf.proofs.Moves.{contrary, store-busy, last-tells}

-- a test is true or false
either-way : (b : Bool) → (b ≡ true) ⊎ (b ≡ false)
either-way true = inl refl
either-way false = inr refl

busy-unspent : (d : Stage) → is_busy d ≡ true → is_spent d ≡ false
busy-unspent Idle e = absurd (true≢false (sym e))
busy-unspent InTurn e = refl
busy-unspent StoreOut e = refl
busy-unspent Spent e = absurd (true≢false (sym e))

flag-busy : (d : Stage) → is_busy d ≡ true → flag_of d ≡ 1
flag-busy d e = ap (λ (b : Bool). if b then 1 else 0) e

flag-idle : (d : Stage) → is_busy d ≡ false → flag_of d ≡ 0
flag-idle d e = ap (λ (b : Bool). if b then 1 else 0) e

zero-one : {X : Type 0} → ◌≡◌ {A = ℕ} 0 1 → X
zero-one h = absurd (omega (arith, h))

module _ {t : Tag} {s : Table} (g : IsKept t s) where
  -- the seat that is in a turn, where one is
  the-busy : is_busy g.doing ≡ true → OneIsBusy s
  the-busy b = let u = g.turn b in record {
    id = g.who;
    view = u.0;
    seat = (u.1, ap is_spent u.2 ∙ busy-unspent g.doing b);
    busy = ap is_busy u.2 ∙ b;
    others = λ j v at h. ((g.each j v at.0 at.1).busy h).0;
  }

  none-busy : is_busy g.doing ≡ false → NoneIsBusy s
  none-busy b id v at = ⊎_elim
      (λ h. contrary (is_busy g.doing) (sym (ap is_busy ((g.each id v at.0 at.1).busy h).1) ∙ h) b)
      (λ h. h) (either-way (is_busy v.stage))

  not-zero : is_busy g.doing ≡ true → flag_in s ≡ 0 → ⊥
  not-zero b e = zero-one (sym e ∙ g.flag ∙ flag-busy g.doing b)

  none-has : has_store g.doing ≡ false → NoneHasStore s
  none-has b id v at = ⊎_elim
      (λ h. contrary (has_store g.doing)
      (sym (ap has_store ((g.each id v at.0 at.1).busy (store-busy v.stage h)).1) ∙ h) b)
      (λ h. h) (either-way (has_store v.stage))

  -- where a seat has the store, the one in a turn has
  one-has : (id : ℕ) (v : View) → IsSeat s id v → has_store v.stage ≡ true → has_store g.doing ≡ true
  one-has id v at h = sym (ap has_store ((g.each id v at.0 at.1).busy (store-busy v.stage h)).1) ∙ h

  here : has_store g.doing ≡ false → IsAtHome t g.placed s (contents t g.placed g.sealed)
  here b = record {
    slot = g.home b;
    tag = refl;
    list = refl;
    sealed = λ e. g.count ∙ ap (count_of t g.placed) e;
  }

  is-out : NoneHasStore s → has_store g.doing ≡ false
  is-out all = ⊎_elim
      (λ h. let u = g.turn (store-busy g.doing h) in
      contrary (has_store u.0.stage) (ap has_store u.2 ∙ h)
      (all g.who u.0 (u.1, ap is_spent u.2 ∙ busy-unspent g.doing (store-busy g.doing h))))
      (λ h. h) (either-way (has_store g.doing))

  pub rules-hold : Rules t s
  rules-hold = record {
    placed = g.placed;
    holder = λ id v at h. ((g.each id v at.0 at.1).out h).0;
    tag = λ id v at. (g.each id v at.0 at.1).tag;
    once = g.pieces.0;
    below = g.pieces.1;
    begins = λ id v at. (g.each id v at.0 at.1).begins;
    flag_one = λ e. ⊎_elim the-busy (λ b. zero-one (sym (flag-idle g.doing b) ∙ sym g.flag ∙ e))
        (either-way (is_busy g.doing));
    one_flag = λ o. g.flag ∙ flag-busy g.doing
        (sym (ap is_busy ((g.each o.id o.view o.seat.0 o.seat.1).busy o.busy).1) ∙ o.busy);
    flag_none = λ e. ⊎_elim (λ b. absurd (not-zero b e)) none-busy (either-way (is_busy g.doing));
    none_flag = λ all. ⊎_elim
        (λ b. let o = the-busy b in contrary (is_busy o.view.stage) o.busy (all o.id o.view o.seat))
        (λ b. g.flag ∙ flag-idle g.doing b) (either-way (is_busy g.doing));
    home = λ all. (contents t g.placed g.sealed, here (is-out all));
    home_none = λ c at. ⊎_elim
        (λ h. absurd (some-ne-none c (sym (some-injective none (some c) (sym (g.out h) ∙ at)))))
        (λ h. (
          none-has h,
          subst (IsAtHome t g.placed s)
              (some-injective _ _ (some-injective _ _ (sym (g.home h) ∙ at))) (here h),
        )) (either-way (has_store g.doing));
    away = λ id v at h. g.out (one-has id v at h);
    count = ⊎_elim
        (λ e. inr (g.count ∙ ap (count_of t g.placed) e, g.whole e))
        (λ e. inl (g.count ∙ ap (count_of t g.placed) e)) (either-way g.sealed);
    saw = λ id v at h. g.count ∙ ap (count_of t g.placed) ((g.each id v at.0 at.1).saw h);
    holder_saw = λ id v at h e. ((g.each id v at.0 at.1).out h).1
        ∙ last-tells t g.placed g.sealed g.few ∙ eq-eqb _ _ (sym g.count ∙ e);
  }
