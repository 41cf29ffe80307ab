-- How often a piece stands in a list, and in the lists of all views, after one view changed. Key idea: a sum over the
-- views changes by as much as the one view's own count does, so no proof looks at the other views.
use Rattle.std.proofs.Common.{◌≡◌, ◌==◌, ◌<◌, ◌≤◌, ◌+◌, ℕ, zero, suc, Bool, List, []}
use Rattle.std.proofs.Common.{◌∷◌, ◌++◌, cond, get_or, set, slice_index, length, sum_by, Contains, sym, ap}
use Rattle.std.proofs.Common.{subst, arith, eq-eqb, ne_eqb, get_or-set_other}
use Rattle.std.proofs.lemmas.Grind.{get_or-set_at}
use Rattle.std.proofs.lemmas.List.Sums.{sum_by-append, sum_by-set, sum_by_push, get_or-le-sum_by}
use mathlib.Core.Option.{some, some-injective, some-ne-none}
use mathlib.Core.Logic.{dite}
use native.Mathlib.Decide.{ℕ_discrete}
use lib.ListN.{get_elem?}
use Rattle.sz_claims.specs.declared.rule.View.{View}
use Rattle.sz_claims.specs.Claims.{AreDisjoint}
use Rattle.sz_claims.specs.Rule.{Table, HasNoRepeats, times, times_claimed, times_met}

module _ {A : Type 0} where
  -- what stands at an index is inside the list, and is what a look-up with a default finds
  pub inside_at : (l : List A) (i : ℕ) (a : A) → get_elem? l i ≡ some a → (i < length l) × (get_or l i a ≡ a)
  inside_at [] i a e = absurd (some-ne-none a (sym e))
  inside_at (x ∷ xs) zero a e = (omega arith, some-injective x a e)
  inside_at (x ∷ xs) (suc i) a e = let t = inside_at xs i a e in (omega (arith, t.0), t.1)

  -- one element is replaced
  pub sum_by-replace : (f : A → ℕ) (l : List A) (i : ℕ) (a b : A) → get_elem? l i ≡ some a
      → sum_by f (set l i b) + f a ≡ sum_by f l + f b
  sum_by-replace f l i a b e =
      let t = inside_at l i a e in
      subst (λ x. sum_by f (set l i b) + f x ≡ sum_by f l + f b) t.1 (sum_by-set f l i b a t.0)

  -- no part is above the sum
  pub part-le-sum_by : (f : A → ℕ) (l : List A) (i : ℕ) (a : A) → get_elem? l i ≡ some a
      → f a ≤ sum_by f l
  part-le-sum_by f l i a e =
      let t = inside_at l i a e in
      subst (λ x. f x ≤ sum_by f l) t.1 (get_or-le-sum_by f l i a t.0)

-- two lists behind each other
pub times-append : (piece : ℕ) (xs ys : List ℕ) → times piece (xs ++ ys) ≡ times piece xs + times piece ys
times-append piece xs ys = sum_by-append (λ x. cond (x == piece) 1 0) xs ys

-- what stands in all lists once the view v of one seat is w
pub claims_with : (piece : ℕ) (s : Table) (id : ℕ) (v w : View) → get_elem? s.views id ≡ some v
    → times_claimed piece (set s.views id w) + times piece v.claimed
    ≡ times_claimed piece s.views + times piece w.claimed
claims_with piece s id v w me = sum_by-replace (λ x. times piece x.claimed) s.views id v w me

-- and what they have met
pub meets_with : (piece : ℕ) (s : Table) (id : ℕ) (v w : View) → get_elem? s.views id ≡ some v
    → times_met piece (set s.views id w) + times piece v.met ≡ times_met piece s.views + times piece w.met
meets_with piece s id v w me = sum_by-replace (λ x. times piece x.met) s.views id v w me

-- 1 where the two are one piece, else 0
abbrev pub mark : ℕ → ℕ → ℕ
mark x piece = cond (x == piece) 1 0

-- and what it is of two pieces
pub mark-same : (x piece : ℕ) → x ≡ piece → mark x piece ≡ 1
mark-same x piece e = let F : Bool → ℕ = λ b. cond b 1 0 in ap F (eq-eqb x piece e)

pub mark-other : (x piece : ℕ) → (x ≡ piece → ⊥) → mark x piece ≡ 0
mark-other x piece n = let F : Bool → ℕ = λ b. cond b 1 0 in ap F (ne_eqb x piece n)

-- one element more
pub times-push : (piece : ℕ) (xs : List ℕ) (x : ℕ)
    → times piece (xs ++ x ∷ []) ≡ times piece xs + mark x piece
times-push piece xs x = sum_by_push (λ y. cond (y == piece) 1 0) xs x

-- a word that was 0 becomes 1
pub word-win : (ws : List ℕ) (i piece : ℕ) → i < length ws → slice_index ws i ≡ 0
    → slice_index (set ws i 1) piece ≡ slice_index ws piece + mark i piece
word-win ws i piece inside free =
    dite (ℕ_discrete piece i)
    (λ same. let here = ap (λ (k : ℕ). slice_index ws k) same in
    omega (arith, get_or-set_at ws i piece 1 0 same inside, here, free, mark-same i piece (sym same)))
    (λ other. omega (arith, get_or-set_other ws i piece 1 0 other, mark-other i piece (λ e. other (sym e))))

-- and is still a bit
pub bit-win : (ws : List ℕ) (i piece : ℕ) → i < length ws → slice_index ws piece ≤ 1
    → slice_index (set ws i 1) piece ≤ 1
bit-win ws i piece inside bit =
    dite (ℕ_discrete piece i)
    (λ same. omega (arith, get_or-set_at ws i piece 1 0 same inside))
    (λ other. omega (arith, bit, get_or-set_other ws i piece 1 0 other))

-- what a list has it has at least once
pub contains-count : (xs : List ℕ) (piece : ℕ) → Contains xs piece → 0 < times piece xs
contains-count xs piece (k, inside, e) =
    omega (arith, mark-same (get_or xs k piece) piece e, get_or-le-sum_by (λ x. mark x piece) xs k piece inside)

-- a list that has no piece twice has no piece in both of its parts
pub parts-are-disjoint : (xs ys : List ℕ) → HasNoRepeats (xs ++ ys) → AreDisjoint xs ys
parts-are-disjoint xs ys once piece here there =
    absurd (omega (
      arith,
      once piece,
      times-append piece xs ys,
      contains-count xs piece here,
      contains-count ys piece there,
    ))
