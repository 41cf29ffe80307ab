-- Beginnings of lists, lists with no repeats, and one element of a list set.
use Rattle.std.proofs.Common.{◌≡◌, ◌==◌, ℕ, zero, suc, ◌<◌, ◌||◌, List, [], ◌∷◌, ◌++◌, set, length}
use Rattle.std.proofs.Common.{sym, refl, ap₂, ne_eqb, if◌then◌else◌, ap, ◌∙◌, arith, true, false, Bool}
use Rattle.std.proofs.Common.{eq-eqb}
use Rattle.std.proofs.lemmas.List.{append-nil, append_assoc}
use Rattle.std.proofs.lemmas.List.Folds.{list_any-append}
use Rattle.std.proofs.lemmas.List.Elements.{All-push}
use mathlib.Core.Option.{some, some-ne-none}
use mathlib.Core.Bool.{true≢false}
use lib.ListN.{get_elem?}
use Rattle.std.specs.Prelude.{slice_index, nat_lt}
use Rattle.sz_shelf.specs.Tags.{Tag, tag_pieces}
use Rattle.sz_shelf.specs.Contents.{is_in}
use Rattle.sz_shelf.specs.Rule.{Begins, HasNoRepeats, ArePieces}
use Rattle.sz_shelf.specs.Steps.{longer}

pub begins-all : (xs : List ℕ) → Begins xs xs
begins-all xs = ([], sym (append-nil xs))

pub begins-push : (xs : List ℕ) (k : ℕ) → Begins xs (xs ++ k ∷ [])
begins-push xs k = (k ∷ [], refl)

pub begins-through : (xs ys zs : List ℕ) → Begins xs ys → Begins ys zs → Begins xs zs
begins-through xs ys zs (r, e) (q, f) =
    (r ++ q, f ∙ ap (λ l. l ++ q) e ∙ append_assoc xs r q)

or-never : (a b : Bool) → (a || b) ≡ false → (a ≡ false) × (b ≡ false)
or-never true b e = absurd (true≢false e)
or-never false b e = (refl, e)

-- where x is not k, k is not x
apart : (x k : ℕ) → (x == k) ≡ false → (k == x) ≡ false
apart x k never = ne_eqb k x (λ same. true≢false (sym (eq-eqb x k (sym same)) ∙ never))

-- the piece that is put behind a list that has it not
never-repeats-push : (xs : List ℕ) (k : ℕ) → HasNoRepeats xs → is_in xs k ≡ false → HasNoRepeats (xs ++ k ∷ [])
never-repeats-push [] k once new = (refl, tt)
never-repeats-push (x ∷ xs) k once new =
    let parts = or-never (x == k) (is_in xs k) new in (
      list_any-append (λ j. j == x) xs (k ∷ []) ∙ ap₂ (λ a b. a || b) once.0 (ap (λ a. a || false) (apart x k parts.0)),
      never-repeats-push xs k once.1 parts.1,
    )

pub pieces-push : (t : Tag) (xs : List ℕ) (k : ℕ) → ArePieces t xs → is_in xs k ≡ false → k < tag_pieces t
    → ArePieces t (xs ++ k ∷ [])
pieces-push t xs k are new inside =
    (never-repeats-push xs k are.0 new, All-push (λ n. n < tag_pieces t) xs k are.1 inside)

-- the longer of two beginnings of a list is one of it, and has both
pub longer-begins : (xs ys zs : List ℕ) → Begins xs zs → Begins ys zs → Begins (longer xs ys) zs
longer-begins xs ys zs b c = by_test (nat_lt (length xs) (length ys)) where
  by_test : (t : Bool) → Begins (if t then ys else xs) zs
  by_test true = c
  by_test false = b

-- one element of a list set
module _ {A : Type 0} where
  pub set_there : (l : List A) (i : ℕ) (a b : A) → get_elem? l i ≡ some a → get_elem? (set l i b) i ≡ some b
  set_there [] i a b e = absurd (some-ne-none a (sym e))
  set_there (x ∷ xs) zero a b e = refl
  set_there (x ∷ xs) (suc i) a b e = set_there xs i a b e

-- a list of two numbers, one of them set
pub two-of : (l : List ℕ) (n : ℕ) → length l ≡ 2 → (slice_index (set l 0 n) 0 ≡ n)
    × (slice_index (set l 0 n) 1 ≡ slice_index l 1) × (slice_index (set l 1 n) 1 ≡ n)
    × (slice_index (set l 1 n) 0 ≡ slice_index l 0)
two-of [] n e = absurd (omega arith)
two-of (x ∷ []) n e = absurd (omega arith)
two-of (x ∷ y ∷ zs) n e = (refl, refl, refl, refl)
