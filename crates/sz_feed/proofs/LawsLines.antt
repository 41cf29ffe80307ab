-- The lines of a text.
--
-- The key idea: a byte 10 behind bytes that have none ends their line, whatever comes behind it. So lines joined by
-- newlines are cut off one by one, and bytes that end with a newline are cut as if nothing came behind them.
use Rattle.std.proofs.Common.{◌≡◌, ℕ, ◌<◌, List, [], ◌∷◌, ◌++◌, length, refl, ap, ◌∙◌}
use Rattle.std.proofs.Common.{append_assoc, arith, true, false, inl, inr}
use Rattle.std.specs.Prelude.{◌==◌}
use Rattle.std.proofs.lemmas.Bool.{and_parts, cases_Bool, eqb-true}
use Rattle.sz_commands.specs.Lines.{lines_of, before_first_line, is_within_line, Cut, cut}
use Rattle.sz_feed.specs.Laws.{text_of, are_lines, LinesAreThoseJoined, BytesLeftAreTheLastLine, EachTextIsLines}
use Rattle.sz_feed.specs.Laws.{CutsAreThoseJoined}
use Rattle.sz_feed.proofs.Cuts.{lines_of-within, lines_of-ended, cut-within, cut-ended}

-- the lines of lines that are joined by newlines are those lines
pub lines-joined : LinesAreThoseJoined
lines-joined [] h = refl
lines-joined (line ∷ lines) h =
    let both = and_parts (is_within_line line) (are_lines lines) h in
    lines_of-ended line (text_of lines) both.0
    ∙ ap (λ (ls : List (List ℕ)). line ∷ ls) (lines-joined lines both.1)

one-line : (last : List ℕ) → is_within_line last ≡ true → 0 < length last → lines_of last ≡ last ∷ []
one-line [] h some = absurd (omega arith)
one-line (x ∷ xs) h some = lines_of-within x xs h

-- bytes behind the last newline are the last line
pub lines-and_last : BytesLeftAreTheLastLine
lines-and_last [] last h within some = one-line last within some
lines-and_last (line ∷ lines) last h within some =
    let both = and_parts (is_within_line line) (are_lines lines) h in
    ap lines_of (append_assoc line (10 ∷ text_of lines) last)
    ∙ lines_of-ended line (text_of lines ++ last) both.0
    ∙ ap (λ (ls : List (List ℕ)). line ∷ ls) (lines-and_last lines last both.1 within some)

-- bytes that are lines and a last one
record AreLines (bytes : List ℕ) : Type 0 where
  lines : List (List ℕ)
  last : List ℕ
  within : are_lines lines ≡ true
  last_within : is_within_line last ≡ true
  same : bytes ≡ text_of lines ++ last

-- one more byte before them
byte-before : (b : ℕ) (lines : List (List ℕ)) (last : List ℕ) → (b == 10) ≡ false → are_lines lines ≡ true
    → is_within_line last ≡ true → AreLines (b ∷ (text_of lines ++ last))
byte-before b [] last other h within =
    record { lines = []; last = b ∷ last; within = refl; last_within = rw other within; same = refl }
byte-before b (line ∷ lines) last other h within =
    record { lines = (b ∷ line) ∷ lines; last = last; within = rw other h; last_within = within; same = refl }

each-text : (bytes : List ℕ) → AreLines bytes
each-text [] = record { lines = []; last = []; within = refl; last_within = refl; same = refl }
each-text (b ∷ bytes) =
    let r = each-text bytes in
    elim (cases_Bool (b == 10)) [
      | inl newline ↦
          record {
            lines = [] ∷ r.lines;
            last = r.last;
            within = r.within;
            last_within = r.last_within;
            same = ap (λ (x : ℕ). x ∷ bytes) (eqb-true b 10 newline) ∙ ap (λ (ys : List ℕ). 10 ∷ ys) r.same;
          }
      | inr other ↦ rw r.same (byte-before b r.lines r.last other r.within r.last_within)
    ]

-- each text is lines joined by newlines, and bytes without a newline behind them
pub each-text_is_lines : EachTextIsLines
each-text_is_lines bytes = let r = each-text bytes in (r.lines, r.last, r.within, r.last_within, r.same)

-- the cut of lines joined by newlines and of bytes behind them is those lines and those bytes
pub cut-joined : CutsAreThoseJoined
cut-joined [] last h within = cut-within last within
cut-joined (line ∷ lines) last h within =
    let both = and_parts (is_within_line line) (are_lines lines) h in
    ap cut (append_assoc line (10 ∷ text_of lines) last)
    ∙ cut-ended line (text_of lines ++ last) both.0
    ∙ ap (λ (c : Cut). record { whole = line ∷ c.whole; last = c.last }) (cut-joined lines last both.1 within)

-- ---- bytes that end with a newline

before-append : (b : ℕ) (xs ys : List (List ℕ)) → 0 < length xs
    → before_first_line b (xs ++ ys) ≡ before_first_line b xs ++ ys
before-append b [] ys some = absurd (omega arith)
before-append b (x ∷ xs) ys some = refl

some-before : (b : ℕ) (xs : List (List ℕ)) → 0 < length (before_first_line b xs)
some-before b [] = omega arith
some-before b (x ∷ xs) = omega arith

some-line : (bytes : List ℕ) → 0 < length (lines_of (bytes ++ 10 ∷ []))
some-line [] = omega arith
some-line (b ∷ bytes) =
    elim (cases_Bool (b == 10)) [
      | inl t ↦ rw t (omega arith)
      | inr f ↦
          rw f (some-before b (lines_of (bytes ++ 10 ∷ [])))
    ]

pub lines-go_on : (bytes rest : List ℕ)
    → lines_of ((bytes ++ 10 ∷ []) ++ rest) ≡ lines_of (bytes ++ 10 ∷ []) ++ lines_of rest
lines-go_on [] rest = refl
lines-go_on (b ∷ bytes) rest = elim (cases_Bool (b == 10)) [
  | inl t ↦ rw t (ap (λ (ls : List (List ℕ)). [] ∷ ls) (lines-go_on bytes rest))
  | inr f ↦
      rw f (ap (before_first_line b) (lines-go_on bytes rest)
      ∙ before-append b (lines_of (bytes ++ 10 ∷ [])) (lines_of rest) (some-line bytes))
]
