-- Where bytes are cut into lines.
--
-- The key idea: bytes without a byte 10 go to the line that has not ended, and a byte 10 ends it, whatever comes
-- behind. So bytes behind others are cut together with the line that those left, by induction over the first bytes.
use Rattle.std.proofs.Common.{◌≡◌, ◌≢◌, ℕ, suc, zero, ◌+◌, ◌-◌, ◌<◌, ◌≤◌, List, []}
use Rattle.std.proofs.Common.{◌∷◌, ◌++◌, length, get_or, take, drop, refl, sym, ap, ◌∙◌, subst}
use Rattle.std.proofs.Common.{append_assoc, arith, length-drop, Bool, true, false, not}
use Rattle.std.specs.Prelude.{◌==◌}
use Rattle.std.proofs.lemmas.Bool.Decides.{nat_tests}
use Rattle.std.proofs.Common.{inl, inr}
use Rattle.std.proofs.lemmas.Bool.{and_parts, and_from, cases_Bool}
use Rattle.std.proofs.lemmas.List.{get_or-drop}
use Rattle.sz_commands.specs.Lines.{lines_of, before_first_line, is_within_line, Cut, cut, newline_before, bytes_first}
use Rattle.sz_commands.specs.Lines.{before_cut, last_line}
use Rattle.sz_feed.specs.Laws.{LinesAreTheCut, CutsGoByParts, CutsBehindAreOfBoth}

no_newline : (x : ℕ) → x ≢ 10 → not (x == 10) ≡ true
no_newline x ne = grind (arith, nat_tests)

pub is_other : (x : ℕ) (xs : List ℕ) → is_within_line (x ∷ xs) ≡ true → (x == 10) ≡ false
is_other x xs h = not_not (x == 10) (and_parts (not (x == 10)) (is_within_line xs) h).0 where
  not_not : (b : Bool) → not b ≡ true → b ≡ false
  not_not true h = cc
  not_not false h = refl

pub rest_within : (x : ℕ) (xs : List ℕ) → is_within_line (x ∷ xs) ≡ true → is_within_line xs ≡ true
rest_within x xs h = (and_parts (not (x == 10)) (is_within_line xs) h).1

-- one byte more that is no byte 10
pub within-more : (xs : List ℕ) (n : ℕ) → n < length xs → get_or xs n 0 ≢ 10
    → is_within_line (take n xs) ≡ true → is_within_line (take (n + 1) xs) ≡ true
within-more [] n lt ne h = absurd (omega arith)
within-more (x ∷ xs) zero lt ne h = and_from (not (x == 10)) true (no_newline x ne) refl
within-more (x ∷ xs) (suc n) lt ne h =
    let one : suc n + 1 ≡ suc (n + 1) = omega arith in
    let P : ℕ → Type 0 = λ k. is_within_line (take k (x ∷ xs)) ≡ true in
    let parts = and_parts (not (x == 10)) (is_within_line (take n xs)) h in
    subst P (sym one)
    (and_from (not (x == 10)) (is_within_line (take (n + 1) xs)) parts.0
    (within-more xs n (omega arith) ne parts.1))

-- the same within a list, from a place on
pub within-more-from : (xs : List ℕ) (start at : ℕ) → start ≤ at → at < length xs → get_or xs at 0 ≢ 10
    → is_within_line (take (at - start) (drop start xs)) ≡ true
    → is_within_line (take (at + 1 - start) (drop start xs)) ≡ true
within-more-from xs start at le lt ne h =
    let one : at + 1 - start ≡ at - start + 1 = omega arith in
    let here : start + (at - start) ≡ at = omega arith in
    let same : get_or (drop start xs) (at - start) 0 ≡ get_or xs at 0 = get_or-drop start xs (at - start) 0
    ∙ ap (λ (k : ℕ). get_or xs k 0) here in
    let short : at - start < length (drop start xs) = omega (arith, length-drop {A = ℕ}) in
    let P : ℕ → Type 0 = λ k. is_within_line (take k (drop start xs)) ≡ true in
    subst P (sym one) (within-more (drop start xs) (at - start) short (λ e. ne (sym same ∙ e)) h)

-- bytes without a byte 10, at the end of the text, are a line if there are any
pub lines_of-within : (x : ℕ) (xs : List ℕ) → is_within_line (x ∷ xs) ≡ true
    → lines_of (x ∷ xs) ≡ (x ∷ xs) ∷ []
lines_of-within x [] h = rw (is_other x [] h) refl
lines_of-within x (y ∷ xs) h =
    rw (is_other x (y ∷ xs) h) (ap (before_first_line x) (lines_of-within y xs (rest_within x (y ∷ xs) h)))

-- a byte 10 behind them ends their line
pub lines_of-ended : (xs rest : List ℕ) → is_within_line xs ≡ true
    → lines_of (xs ++ 10 ∷ rest) ≡ xs ∷ lines_of rest
lines_of-ended [] rest h = refl
lines_of-ended (x ∷ xs) rest h =
    rw (is_other x xs h) (ap (before_first_line x) (lines_of-ended xs rest (rest_within x xs h)))

-- ---- the cut

-- bytes without a byte 10 are of the line that has not ended
pub cut-within : (xs : List ℕ) → is_within_line xs ≡ true → cut xs ≡ record { whole = []; last = xs }
cut-within [] h = refl
cut-within (x ∷ xs) h = rw (is_other x xs h) (ap (before_cut (x ∷ [])) (cut-within xs (rest_within x xs h)))

-- a byte 10 behind them ends their line
pub cut-ended : (xs rest : List ℕ) → is_within_line xs ≡ true
    → cut (xs ++ 10 ∷ rest) ≡ record { whole = xs ∷ (cut rest).whole; last = (cut rest).last }
cut-ended [] rest h = refl
cut-ended (x ∷ xs) rest h = rw (is_other x xs h) (ap (before_cut (x ∷ [])) (cut-ended xs rest (rest_within x xs h)))

-- some lines before those of a cut
abbrev pub lines_before : List (List ℕ) → Cut → Cut
lines_before ls c = record { whole = ls ++ c.whole; last = c.last }

-- no bytes before a cut
pub before_cut-nothing : (c : Cut) → before_cut [] c ≡ c
before_cut-nothing c = by_lines c.whole c.last where
  by_lines : (ls : List (List ℕ)) (last : List ℕ) → bytes_first [] ls last ≡ record { whole = ls; last = last }
  by_lines [] last = refl
  by_lines (l ∷ ls) last = refl

-- bytes before bytes before a cut
before_cut-append : (a b : List ℕ) (ls : List (List ℕ)) (last : List ℕ)
    → before_cut a (bytes_first b ls last) ≡ bytes_first (a ++ b) ls last
before_cut-append a b [] last = ap (λ (xs : List ℕ). record { whole = []; last = xs }) (sym (append_assoc a b last))
before_cut-append a b (l ∷ ls) last =
    ap (λ (xs : List ℕ). record { whole = xs ∷ ls; last = last }) (sym (append_assoc a b l))

-- bytes before the cut of a text and of what comes behind it
pub before_cut-parts : (a : List ℕ) (ls : List (List ℕ)) (last : List ℕ) (further : Cut)
    → before_cut a (lines_before ls (before_cut last further))
    ≡ lines_before (bytes_first a ls last).whole (before_cut (bytes_first a ls last).last further)
before_cut-parts a [] last further = before_cut-append a last further.whole further.last
before_cut-parts a (l ∷ ls) last further = refl

-- what comes behind some bytes is cut behind their line that has not ended
pub cut-parts : CutsGoByParts
cut-parts [] rest = sym (before_cut-nothing (cut rest))
cut-parts (x ∷ xs) rest = elim (cases_Bool (x == 10)) [
  | inl newline ↦ rw newline (ap newline_before (cut-parts xs rest))
  | inr other ↦
      rw other (ap (before_cut (x ∷ [])) (cut-parts xs rest)
      ∙ before_cut-parts (x ∷ []) (cut xs).whole (cut xs).last (cut rest))
]

-- bytes behind the beginning of a line are cut as they are together with it
pub before_cut-both : CutsBehindAreOfBoth
before_cut-both begun bytes h =
    sym (cut-parts begun bytes
    ∙ ap (λ (c : Cut). lines_before c.whole (before_cut c.last (cut bytes))) (cut-within begun h))

-- the lines of a text are the whole ones and then the last, where that has bytes
pub lines_of-cut : LinesAreTheCut
lines_of-cut [] = refl
lines_of-cut (x ∷ xs) = elim (cases_Bool (x == 10)) [
  | inl newline ↦ rw newline (ap (λ (ls : List (List ℕ)). [] ∷ ls) (lines_of-cut xs))
  | inr other ↦ rw other (ap (before_first_line x) (lines_of-cut xs) ∙ byte-lines (cut xs).whole (cut xs).last)
] where
  byte-lines : (ls : List (List ℕ)) (last : List ℕ)
      → before_first_line x (ls ++ last_line last)
      ≡ (bytes_first (x ∷ []) ls last).whole ++ last_line (bytes_first (x ∷ []) ls last).last
  byte-lines [] [] = refl
  byte-lines [] (y ∷ last) = refl
  byte-lines (l ∷ ls) last = refl
