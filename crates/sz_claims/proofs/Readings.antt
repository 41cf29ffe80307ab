-- What the rule says, in plain words: a claimed piece is in the list of one seat, once, and a free one in none; a
-- piece that was met is claimed. Key idea: a sum of counts that is at least 1 has a part that is, and two parts of it
-- are together at most the sum.
use Rattle.std.proofs.Common.{◌≡◌, ◌<◌, ◌≤◌, ◌+◌, ℕ, zero, suc, List, [], ◌∷◌, get_or}
use Rattle.std.proofs.Common.{sum_by, Contains, sym, refl, ap, ◌∙◌, subst, arith}
use Rattle.std.proofs.lemmas.List.Sums.{sum_by-cons}
use mathlib.Core.Option.{some, some-injective, some-ne-none}
use mathlib.Core.Logic.{dite}
use native.Mathlib.Decide.{ℕ_discrete}
use lib.ListN.{get_elem?}
use Rattle.std.specs.Prelude.{slice_index}
use Rattle.sz_claims.specs.declared.rule.View.{View}
use Rattle.sz_claims.specs.Claims.{AreDisjoint}
use Rattle.sz_claims.specs.Rule.{Table, IsKept, HasNoRepeats, times}
use Rattle.sz_claims.proofs.Counts.{part-le-sum_by, contains-count, mark, mark-other, inside_at}

module _ {A : Type 0} where
  -- some part of a sum above 0 is above 0
  positive_part : (f : A → ℕ) (l : List A) → 0 < sum_by f l
      → (i : ℕ) × (a : A) × (get_elem? l i ≡ some a) × (0 < f a)
  positive_part f [] h = absurd (omega arith)
  positive_part f (x ∷ xs) h =
      dite (ℕ_discrete (f x) 0)
      (λ none. let t = positive_part f xs (omega (arith, h, none, sum_by-cons f x xs)) in (suc t.0, t.1, t.2, t.3))
      (λ one. (0, x, refl, omega (arith, one)))

  -- two parts of a sum
  two_parts : (f : A → ℕ) (l : List A) (i j : ℕ) (a b : A) → (i ≡ j → ⊥) → get_elem? l i ≡ some a
      → get_elem? l j ≡ some b → f a + f b ≤ sum_by f l
  two_parts f [] i j a b other at there = absurd (some-ne-none a (sym at))
  two_parts f (x ∷ xs) zero zero a b other at there = absurd (other refl)
  two_parts f (x ∷ xs) zero (suc j) a b other at there =
      let here = ap f (some-injective x a at) in omega (arith, here, part-le-sum_by f xs j b there, sum_by-cons f x xs)
  two_parts f (x ∷ xs) (suc i) zero a b other at there =
      let here = ap f (some-injective x b there) in omega (arith, here, part-le-sum_by f xs i a at, sum_by-cons f x xs)
  two_parts f (x ∷ xs) (suc i) (suc j) a b other at there =
      omega (arith, two_parts f xs i j a b (λ e. other (ap suc e)) at there, sum_by-cons f x xs)

count-contains : (xs : List ℕ) (piece : ℕ) → 0 < times piece xs → Contains xs piece
count-contains xs piece h =
    let t = positive_part (λ x. mark x piece) xs h in
    let inside = inside_at xs t.0 t.1 t.2 in
    let same : t.1 ≡ piece = dite (ℕ_discrete t.1 piece)
    (λ e. e)
    (λ other. absurd (omega (arith, t.3, mark-other t.1 piece other))) in
    (t.0, inside.0, subst (λ (x : ℕ). get_or xs t.0 x ≡ x) same inside.1)

-- a piece in the list of a seat is claimed
pub claimed-is-one : {pieces : ℕ} {s : Table} → IsKept pieces s → (seat : ℕ) (v : View)
    → get_elem? s.views seat ≡ some v → (piece : ℕ) → Contains v.claimed piece
    → slice_index s.words piece ≡ 1
claimed-is-one {s} kept seat v at piece has =
    let part = part-le-sum_by (λ x. times piece x.claimed) s.views seat v at in
    omega (arith, kept.bit piece, kept.held piece, contains-count v.claimed piece has, part)

-- a claimed piece is in the list of a seat
pub one-is-claimed : {pieces : ℕ} {s : Table} → IsKept pieces s → (piece : ℕ)
    → slice_index s.words piece ≡ 1
    → (seat : ℕ) × (v : View) × (get_elem? s.views seat ≡ some v) × Contains v.claimed piece
one-is-claimed {s} kept piece one =
    let t = positive_part (λ x. times piece x.claimed) s.views (omega (arith, one, kept.held piece)) in
    (t.0, t.1, t.2, count-contains t.1.claimed piece t.3)

-- no piece is in the lists of two seats
pub two-seats-are-disjoint : {pieces : ℕ} {s : Table} → IsKept pieces s → (i j : ℕ) (v w : View)
    → (i ≡ j → ⊥)
    → get_elem? s.views i ≡ some v → get_elem? s.views j ≡ some w → AreDisjoint v.claimed w.claimed
two-seats-are-disjoint {s} kept i j v w other at there piece here also =
    let both = two_parts (λ x. times piece x.claimed) s.views i j v w other at there in
    let one = contains-count v.claimed piece here in
    let two = contains-count w.claimed piece also in
    absurd (omega (arith, kept.bit piece, kept.held piece, one, two, both))

-- nor twice in the list of one
pub one-seat-has-it-once : {pieces : ℕ} {s : Table} → IsKept pieces s → (seat : ℕ) (v : View)
    → get_elem? s.views seat ≡ some v → HasNoRepeats v.claimed
one-seat-has-it-once {s} kept seat v at piece =
    omega (arith, kept.bit piece, kept.held piece, part-le-sum_by (λ x. times piece x.claimed) s.views seat v at)

-- a piece that a seat met is claimed
pub met-is-one : {pieces : ℕ} {s : Table} → IsKept pieces s → (seat : ℕ) (v : View)
    → get_elem? s.views seat ≡ some v → (piece : ℕ) → Contains v.met piece → slice_index s.words piece ≡ 1
met-is-one {s} kept seat v at piece has =
    let part = part-le-sum_by (λ x. times piece x.met) s.views seat v at in
    kept.met piece (omega (arith, contains-count v.met piece has, part))

-- a seat that is alone has each claimed piece
pub alone-has : {pieces : ℕ} {s : Table} → IsKept pieces s → (seat : ℕ) (v : View)
    → get_elem? s.views seat ≡ some v → v.depth ≡ 0 → v.splits ≡ 0 → (piece : ℕ)
    → slice_index s.words piece ≡ 1 → Contains v.claimed piece
alone-has {s} kept seat v at first never piece one =
    let t = one-is-claimed kept piece one in
    let alone = kept.alone seat v at first never in
    let theirs = (inside_at s.views t.0 t.1 t.2).0 in
    let same : t.0 ≡ seat = omega (arith, alone, theirs, (inside_at s.views seat v at).0) in
    let here : get_elem? s.views seat ≡ some t.1 = subst (λ (i : ℕ). get_elem? s.views i ≡ some t.1) same t.2 in
    subst (λ (x : View). Contains x.claimed piece) (some-injective t.1 v (sym here ∙ at)) t.3
