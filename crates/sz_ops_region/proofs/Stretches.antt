-- What follows of indexes at which words begin to be others.
--
-- The key idea: each index is written where the next one is to stand, and stays there only if the word differs from the
-- one before it. So from the last index on all words so far are one.
use Rattle.std.proofs.Common.{◌≡◌, ℕ, zero, suc, ◌+◌, ◌-◌, ◌<◌, ◌≤◌, List, [], ◌∷◌, length, map, get_or, take}
use Rattle.std.proofs.Common.{refl, sym, ap, ◌∙◌, arith, inl, inr, get_or-set_other, get_or-set_same}
use Rattle.std.proofs.Math.ListN.{set}
use Rattle.std.proofs.lemmas.Bool.Decides.{eqb_tells}
use Rattle.std.proofs.lemmas.List.{length-map}
use Rattle.sz_ops_region.specs.declared.marks.Mark.{Mark}
use Rattle.sz_ops_region.specs.Marks.{mark_in, mark_at}
use Rattle.sz_ops_region.specs.Stretches.{AreStarts, AreStretches}
use Rattle.sz_ops_region.proofs.Words.{word-at}

-- an index beyond those that are counted is written
pub starts-kept : (words : List ℕ) (count n v : ℕ) (xs : List ℕ) → AreStarts words count n xs
    → AreStarts words count n (set xs count v)
starts-kept words count n v xs are =
    let ys = set xs count v in
    let at : (m : ℕ) → m < count → get_or ys m 0 ≡ get_or xs m 0 =
    λ m below. get_or-set_other xs count m v 0 (omega arith) in
    record {
      some = are.some;
      from = at 0 are.some ∙ are.from;
      rising = λ m below. omega (arith, at m (omega arith), at (m + 1) below, are.rising m below);
      same = λ m below k low high.
          are.same m below k (omega (arith, at m (omega arith))) (omega (arith, at (m + 1) below))
          ∙ ap (λ (i : ℕ). get_or words i 0) (sym (at m (omega arith)));
      low = λ m below. omega (arith, at m below, are.low m below);
      last = λ m is k low high.
          are.last m is k (omega (arith, at m (omega arith))) high
          ∙ ap (λ (i : ℕ). get_or words i 0) (sym (at m (omega arith)));
    }

-- the first index
pub starts-first : (words : List ℕ) (xs : List ℕ) → 0 < length xs → AreStarts words 1 1 (set xs 0 0)
starts-first words xs some =
    let ys = set xs 0 0 in
    let at : get_or ys 0 0 ≡ 0 = get_or-set_same xs 0 0 0 some in
    let none : (m : ℕ) → m + 1 < 1 → ⊥ = λ m below. omega arith in
    record {
      some = omega arith;
      from = at;
      rising = λ m below. absurd (none m below);
      same = λ m below. absurd (none m below);
      low = λ m below.
          let is : m ≡ 0 = omega arith in omega (arith, at, ap (λ (i : ℕ). get_or ys i 0) is);
      last = λ m is k low high.
          let first : m ≡ 0 = omega arith in
          let only : k ≡ 0 = omega arith in
          ap (λ (i : ℕ). get_or words i 0) (only ∙ sym (ap (λ (i : ℕ). get_or ys i 0) first ∙ at));
    }

-- a word that is the one before it
pub starts-on : (words : List ℕ) (count n : ℕ) (xs : List ℕ) → AreStarts words count n xs → 0 < n
    → get_or words n 0 ≡ get_or words (n - 1) 0 → AreStarts words count (n + 1) (set xs count n)
starts-on words count n xs are some is =
    let kept = starts-kept words count n n xs are in
    let ys = set xs count n in
    record {
      some = kept.some;
      from = kept.from;
      rising = kept.rising;
      same = kept.same;
      low = λ m below. omega (arith, kept.low m below);
      last = λ m at k low high.
          let before = kept.low m (omega arith) in
          elim (eqb_tells k n) [
            | inr apart ↦ kept.last m at k low (omega (arith, apart.1))
            | inl here ↦
                ap (λ (i : ℕ). get_or words i 0) here.1 ∙ is
                ∙ kept.last m at (n - 1) (omega (arith, before)) (omega (arith, some))
          ];
    }

-- a word that differs from the one before it
pub starts-more : (words : List ℕ) (count n : ℕ) (xs : List ℕ) → AreStarts words count n xs → count < length xs
    → AreStarts words (count + 1) (n + 1) (set xs count n)
starts-more words count n xs are inside =
    let kept = starts-kept words count n n xs are in
    let ys = set xs count n in
    let here : get_or ys count 0 ≡ n = get_or-set_same xs count n 0 inside in
    let next : (m : ℕ) → m + 1 ≡ count → get_or ys (m + 1) 0 ≡ n =
    λ m at. ap (λ (i : ℕ). get_or ys i 0) at ∙ here in
    record {
      some = omega arith;
      from = kept.from;
      rising = λ m below.
          elim (eqb_tells (m + 1) count) [
            | inl at ↦ omega (arith, kept.low m (omega (arith, at.1)), next m at.1)
            | inr apart ↦ kept.rising m (omega (arith, apart.1))
          ];
      same = λ m below k low high.
          elim (eqb_tells (m + 1) count) [
            | inl at ↦ kept.last m at.1 k low (omega (arith, next m at.1))
            | inr apart ↦ kept.same m (omega (arith, apart.1)) k low high
          ];
      low = λ m below.
          elim (eqb_tells m count) [
            | inl at ↦ omega (arith, here, ap (λ (i : ℕ). get_or ys i 0) at.1)
            | inr apart ↦ omega (arith, kept.low m (omega (arith, apart.1)))
          ];
      last = λ m at k low high.
          let begins : get_or ys m 0 ≡ n = ap (λ (i : ℕ). get_or ys i 0) (omega (arith, at)) ∙ here in
          let only : k ≡ n = omega (arith, begins) in
          ap (λ (i : ℕ). get_or words i 0) (only ∙ sym begins);
    }

-- ---- stretches

take-at : (xs : List ℕ) (n m : ℕ) → m < n → get_or (take n xs) m 0 ≡ get_or xs m 0
take-at xs zero m below = absurd (omega arith)
take-at [] (suc n) m below = refl
take-at (x ∷ xs) (suc n) zero below = refl
take-at (x ∷ xs) (suc n) (suc m) below = take-at xs n m (omega arith)

-- the indexes of all words, with the number of words behind
pub starts-stretches : (words : List ℕ) (marks : List Mark) (count : ℕ) (xs ys : List ℕ)
    → map mark_in words ≡ marks → AreStarts words count (length words) xs
    → get_or xs count 0 ≡ length words → count ≤ length words → ys ≡ take (count + 1) xs
    → length ys ≡ count + 1 → AreStretches marks ys
starts-stretches words marks count xs ys is are end few taken long =
    let many : length words ≡ length marks = sym (length-map words mark_in) ∙ ap (λ (ms : List Mark). length ms) is in
    let at : (m : ℕ) → m < count + 1 → get_or ys m 0 ≡ get_or xs m 0 =
    λ m below. ap (λ (zs : List ℕ). get_or zs m 0) taken ∙ take-at xs (count + 1) m below in
    let upto : (m : ℕ) → m ≡ count → get_or ys m 0 ≡ length marks =
    λ m here. at m (omega arith) ∙ ap (λ (i : ℕ). get_or xs i 0) here ∙ end ∙ many in
    let mark : (k : ℕ) → mark_at marks k ≡ mark_in (get_or words k 0) =
    λ k. ap (λ (ms : List Mark). mark_at ms k) (sym is) ∙ word-at words k in
    record {
      some = omega (arith, are.some, long);
      few = omega (arith, few, long, many);
      from = at 0 (omega arith) ∙ are.from;
      upto = λ m last. upto m (omega (arith, long));
      rising = λ m below.
          elim (eqb_tells (m + 1) count) [
            | inl here ↦ omega (
              arith,
              upto (m + 1) here.1,
              at m (omega (arith, here.1)),
              are.low m (omega (arith, here.1)),
              many,
            )
            | inr apart ↦ omega (
              arith,
              at m (omega (arith, long)),
              at (m + 1) (omega (arith, long)),
              are.rising m (omega (arith, long, apart.1)),
            )
          ];
      within = λ m below.
          elim (eqb_tells m count) [
            | inl here ↦ omega (arith, upto m here.1)
            | inr apart ↦ omega (
              arith,
              at m (omega (arith, long)),
              are.low m (omega (arith, long, apart.1)),
              many,
            )
          ];
      same = λ m k below low high.
          let begins = at m (omega (arith, long)) in
          let one : get_or words k 0 ≡ get_or words (get_or xs m 0) 0 =
          elim (eqb_tells (m + 1) count) [
            | inl here ↦ are.last m here.1 k (omega (arith, begins)) (omega (arith, upto (m + 1) here.1, many))
            | inr apart ↦ are.same m (omega (arith, long, apart.1)) k (omega (arith, begins))
                (omega (arith, at (m + 1) (omega (arith, long))))
          ] in
          mark k ∙ ap mark_in (one ∙ ap (λ (i : ℕ). get_or words i 0) (sym begins)) ∙ sym (mark (get_or ys m 0));
    }
