-- What follows of the words that keep marks.
--
-- The key idea: the word of a number is as much more than the number as there are other marks, so it is none of theirs.
use Rattle.std.proofs.Common.{◌≡◌, ℕ, zero, suc, ◌+◌, List, map, get_or, refl, ap, ◌∙◌, arith, replicate}
use Rattle.std.proofs.Math.ListN.{set, get_or-map}
use Rattle.std.proofs.lemmas.Bool.{ne_eqb}
use Rattle.std.proofs.lemmas.List.{map-set}
use Rattle.sz_ops_region.specs.declared.marks.Mark.{Mark}
use Rattle.sz_ops_region.specs.declared.marks.Mark.TheVariants.{Low, Numbered}
use Rattle.sz_ops_region.specs.Marks.{mark_in, mark_at}

-- the word of a number
pub word-numbered : (n : ℕ) → mark_in (2 + n) ≡ Numbered n
word-numbered n =
    let zeroth = ne_eqb (2 + n) 0 (λ is. omega (arith, is)) in
    let first = ne_eqb (2 + n) 1 (λ is. omega (arith, is)) in
    rw (zeroth, first) (ap (λ (m : ℕ). Numbered m) (omega arith))

-- the marks after a word was written
pub word-set : (words : List ℕ) (i w : ℕ) (m : Mark) → mark_in w ≡ m
    → map mark_in (set words i w) ≡ set (map mark_in words) i m
word-set words i w m is = map-set mark_in words i w ∙ ap (set (map mark_in words) i) is

-- the mark of the word at a place
pub word-at : (words : List ℕ) (i : ℕ) → mark_at (map mark_in words) i ≡ mark_in (get_or words i 0)
word-at words i = get_or-map mark_in words i 0

-- the word of no cell
pub zeros : (n k : ℕ) → get_or {A = ℕ} (replicate n 0) k 0 ≡ 0
zeros zero k = refl
zeros (suc n) zero = refl
zeros (suc n) (suc k) = zeros n k

-- words that are all 0 mark no cell
pub words-none : (n k : ℕ) → mark_at (map mark_in (replicate n 0)) k ≡ Low
words-none n k = word-at (replicate n 0) k ∙ ap mark_in (zeros n k)
