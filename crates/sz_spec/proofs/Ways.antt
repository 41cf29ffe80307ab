-- What follows of modes, strategies and the way of a query step.
--
-- The key idea: the way is the first listed one of an order that has each strategy once. So each before it was
-- passed over, and since some strategy is listed, one is found.
use Rattle.std.proofs.Common.{◌≡◌, ℕ, zero, suc, ◌<◌, ◌≤◌, ℤ, Bool, true, false, ◌==◌}
use Rattle.std.proofs.Common.{◌⊎◌, inl, inr}
use Rattle.std.proofs.Common.{List, [], ◌∷◌, ◌++◌, length, All, unwrap_or, if◌then◌else◌, refl, sym}
use Rattle.std.proofs.Common.{ap}
use Rattle.std.proofs.Common.{get_or, subst, ◌∙◌, arith, eqb-true, eq-eqb}
use Rattle.std.specs.Prelude.{Contains}
use Rattle.std.specs.List.{filter, find, list_any}
use Rattle.std.proofs.lemmas.Bool.{cases_Bool, or_cases, or_left, or_right, true≢false, false≢true}
use Rattle.std.proofs.lemmas.List.Elements.{All-cons}
use Rattle.sz_spec.specs.declared.op.Op.{Op}
use Rattle.sz_spec.specs.declared.op.Op.TheVariants.{Neg, Abs, AddK, MulK, Clip, Add, Sub, Mul, Min}
use Rattle.sz_spec.specs.declared.op.Op.TheVariants.{Max, Transpose, Slice, Convolve, Block, Lookup}
use Rattle.sz_spec.specs.declared.op.Op.TheVariants.{Regions, Clean, FoldLayers}
use Rattle.sz_spec.specs.declared.modes.Dir.TheVariants.{Back, Forward}
use Rattle.sz_spec.specs.declared.modes.Strategy.{Strategy}
use Rattle.sz_spec.specs.declared.modes.Strategy.TheVariants as strategy
use Rattle.sz_spec.specs.Modes.{has_mapping, order_of, number_of, is_listed, way}
use Rattle.sz_spec.specs.LawsModes.{ThreeHaveNoMapping, MappedOperatorsSupport}
use Rattle.sz_spec.specs.LawsModes.{OtherOperatorsSupport, MappedOperatorsSupportForward}
use Rattle.sz_spec.specs.LawsModes.{OtherOperatorsSupportForward}
use Rattle.sz_spec.specs.LawsModes.{NumbersTellStrategiesApart, OrdersHaveEachStrategyOnce}
use Rattle.sz_spec.specs.LawsModes.{ListedStrategiesAreInTheList}
use Rattle.sz_spec.specs.LawsModes.{WaysAreInTheList, WaysAreTheFirst}

-- ---- modes

-- the operator is one of the three without a mapping
abbrev IsOfThree : Op → Type 0
IsOfThree op = (op ≡ Lookup) ⊎ (((t : ℤ) × (op ≡ Regions t)) ⊎ ((t : ℤ) × (op ≡ Clean t)))

of-three : (op : Op) → has_mapping op ≡ false → IsOfThree op
of-three Neg h = absurd (true≢false h)
of-three Abs h = absurd (true≢false h)
of-three (AddK k) h = absurd (true≢false h)
of-three (MulK k) h = absurd (true≢false h)
of-three (Clip lo hi) h = absurd (true≢false h)
of-three Add h = absurd (true≢false h)
of-three Sub h = absurd (true≢false h)
of-three Mul h = absurd (true≢false h)
of-three Min h = absurd (true≢false h)
of-three Max h = absurd (true≢false h)
of-three Transpose h = absurd (true≢false h)
of-three (Slice r0 c0 height width) h = absurd (true≢false h)
of-three (Convolve kernel) h = absurd (true≢false h)
of-three (Block fold height width) h = absurd (true≢false h)
of-three Lookup h = inl refl
of-three (Regions t) h = inr (inl (t, refl))
of-three (Clean t) h = inr (inr (t, refl))
of-three (FoldLayers fold) h = absurd (true≢false h)

-- those without a mapping are these three
pub three-no_mapping : ThreeHaveNoMapping
three-no_mapping op = (
  of-three op,
  λ known.
      elim known [
        | inl lookup ↦ ap has_mapping lookup
        | inr rest ↦ elim rest [ inl regions ↦ ap has_mapping regions.1 | inr clean ↦ ap has_mapping clean.1 ]
      ],
)

-- the strategies of an operator with a mapping of cells
pub supports-mapped : MappedOperatorsSupport
supports-mapped op h = rw h refl

-- and without one
pub supports-others : OtherOperatorsSupport
supports-others op h = rw h refl

-- and forward
pub supports-mapped_forward : MappedOperatorsSupportForward
supports-mapped_forward op h = rw h refl

pub supports-others_forward : OtherOperatorsSupportForward
supports-others_forward op h = rw h refl

-- ---- strategies and orders

-- the strategy of a number
abbrev numbered : ℕ → Strategy
numbered n = if n == 1 then strategy.Map
    else if n == 2 then strategy.FullOneB
    else if n == 3 then strategy.FullOneF
    else if n == 4 then strategy.FullManyB
    else if n == 5 then strategy.FullManyF
    else if n == 6 then strategy.PayOne
    else if n == 7 then strategy.PayMany
    else if n == 8 then strategy.CompOne
    else if n == 9 then strategy.CompMany
    else strategy.BlackBox

number-back : (s : Strategy) → numbered (number_of s) ≡ s
number-back strategy.Map = refl
number-back strategy.FullOneB = refl
number-back strategy.FullOneF = refl
number-back strategy.FullManyB = refl
number-back strategy.FullManyF = refl
number-back strategy.PayOne = refl
number-back strategy.PayMany = refl
number-back strategy.CompOne = refl
number-back strategy.CompMany = refl
number-back strategy.BlackBox = refl

-- strategies of one number are one
pub number-apart : NumbersTellStrategiesApart
number-apart s t h = sym (number-back s) ∙ ap numbered h ∙ number-back t

-- each order has each strategy once
pub order-once : OrdersHaveEachStrategyOnce
order-once Back strategy.Map = refl
order-once Back strategy.FullOneB = refl
order-once Back strategy.FullOneF = refl
order-once Back strategy.FullManyB = refl
order-once Back strategy.FullManyF = refl
order-once Back strategy.PayOne = refl
order-once Back strategy.PayMany = refl
order-once Back strategy.CompOne = refl
order-once Back strategy.CompMany = refl
order-once Back strategy.BlackBox = refl
order-once Forward strategy.Map = refl
order-once Forward strategy.FullOneB = refl
order-once Forward strategy.FullOneF = refl
order-once Forward strategy.FullManyB = refl
order-once Forward strategy.FullManyF = refl
order-once Forward strategy.PayOne = refl
order-once Forward strategy.PayMany = refl
order-once Forward strategy.CompOne = refl
order-once Forward strategy.CompMany = refl
order-once Forward strategy.BlackBox = refl

-- ---- what is listed

listed-in : (list : List Strategy) (s : Strategy) → is_listed list s ≡ true → Contains list s
listed-in [] s h = absurd (false≢true h)
listed-in (t ∷ list) s h =
    elim (or_cases (number_of t == number_of s) (is_listed list s) h) [
      | inl here ↦ (0, omega arith, number-apart t s (eqb-true (number_of t) (number_of s) here))
      | inr later ↦ let rest = listed-in list s later in (suc rest.0, omega (arith, rest.1), rest.2)
    ]

in-listed : (list : List Strategy) (s : Strategy) (k : ℕ) → k < length list → get_or list k s ≡ s
    → is_listed list s ≡ true
in-listed [] s k inside same = absurd (omega arith)
in-listed (t ∷ list) s zero inside same =
    or_left (number_of t == number_of s) (is_listed list s) (eq-eqb (number_of t) (number_of s) (ap number_of same))
in-listed (t ∷ list) s (suc k) inside same =
    or_right (number_of t == number_of s) (is_listed list s) (in-listed list s k (omega arith) same)

-- the listed ones are those in the list
pub listed-is_in : ListedStrategiesAreInTheList
listed-is_in list s = (listed-in list s, λ there. in-listed list s there.0 there.1 there.2)

-- ---- the way

-- what is found passes, where something does
find-passes : (p : Strategy → Bool) (xs : List Strategy) (d : Strategy) → list_any p xs ≡ true
    → p (unwrap_or (find p xs) d) ≡ true
find-passes p [] d h = absurd (false≢true h)
find-passes p (x ∷ xs) d h =
    elim (cases_Bool (p x)) [
      | inl t ↦ rw t t
      | inr f ↦ let rest = rw f at h in rw f (find-passes p xs d rest)
    ]

-- a listed strategy is in each order
any-kept : (p q : Strategy → Bool) (s : Strategy) (xs : List Strategy)
    → ((t : Strategy) → q t ≡ true → p t ≡ true)
    → filter q xs ≡ s ∷ [] → list_any p xs ≡ true
any-kept p q s [] onward h = (cc)
any-kept p q s (x ∷ xs) onward h =
    elim (cases_Bool (q x)) [
      | inl t ↦ or_left (p x) (list_any p xs) (onward x t)
      | inr f ↦ let rest = rw f at h in or_right (p x) (list_any p xs) (any-kept p q s xs onward rest)
    ]

-- the way is in the list
pub way-listed : WaysAreInTheList
way-listed [] dir some = absurd (omega arith)
way-listed (s ∷ list) dir some =
    let p = is_listed (s ∷ list) in
    let onward : (t : Strategy) → (number_of t == number_of s) ≡ true → p t ≡ true =
    λ t same. or_left (number_of s == number_of t) (is_listed list t)
    (eq-eqb (number_of s) (number_of t) (sym (eqb-true (number_of t) (number_of s) same))) in
    let found = any-kept p (λ t. number_of t == number_of s) s (order_of dir) onward (order-once dir s) in
    listed-in (s ∷ list) (way (s ∷ list) dir) (find-passes p (order_of dir) strategy.BlackBox found)

-- how often a strategy is in a list
abbrev times : Strategy → List Strategy → ℕ
times s xs = length (filter (λ t. number_of t == number_of s) xs)

times-here : (s : Strategy) (xs : List Strategy) → times s (s ∷ xs) ≡ suc (times s xs)
times-here s xs = rw (eq-eqb (number_of s) (number_of s) refl) refl

times-later : (s t : Strategy) (xs : List Strategy) → times s xs ≤ times s (t ∷ xs)
times-later s t xs =
    elim (cases_Bool (number_of t == number_of s)) [
      | inl here ↦ rw here (omega arith)
      | inr other ↦ rw other
          (omega arith)
    ]

times-behind : (s : Strategy) (before after : List Strategy) → 1 ≤ times s (before ++ s ∷ after)
times-behind s [] after = omega (arith, times-here s after)
times-behind s (t ∷ before) after = omega
    (arith, times-behind s before after, times-later s t (before ++ s ∷ after))

-- before what is found, in a list that has each strategy at most once, none passes
none-before : (p : Strategy → Bool) (before after : List Strategy) (w d : Strategy)
    → unwrap_or (find p (before ++ w ∷ after)) d ≡ w
    → ((s : Strategy) → times s (before ++ w ∷ after) ≤ 1)
    → All (λ s. p s ≡ false) before
none-before p [] after w d found once = λ k e inside. absurd (omega arith)
none-before p (y ∷ before) after w d found once =
    elim (cases_Bool (p y)) [
      | inl t ↦
          let same : y ≡ w = rw t at found in
          let twice = times-behind w before after in
          let here = times-here w (before ++ w ∷ after) in
          let bound = subst (λ (z : Strategy). times w (z ∷ (before ++ w ∷ after)) ≤ 1) same (once w) in
          absurd (omega arith)
      | inr f ↦
          let rest : unwrap_or (find p (before ++ w ∷ after)) d ≡ w = rw f at found in
          All-cons (λ s. p s ≡ false) y before f
          (none-before p before after w d rest
          (λ s. omega (arith, once s, times-later s y (before ++ w ∷ after))))
    ]

-- and none before it is
pub way-first : WaysAreTheFirst
way-first list dir before after split =
    let p = is_listed list in
    let found : unwrap_or (find p (before ++ way list dir ∷ after)) strategy.BlackBox ≡ way list dir =
    ap (λ (xs : List Strategy). unwrap_or (find p xs) strategy.BlackBox) (sym split) in
    let once : (s : Strategy) → times s (before ++ way list dir ∷ after) ≤ 1 =
    λ s. omega (arith, ap length (order-once dir s), ap (times s) split) in
    none-before p before after (way list dir) strategy.BlackBox found once
