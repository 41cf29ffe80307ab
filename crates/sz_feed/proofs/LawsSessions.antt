-- Sessions go on.
--
-- The key idea: the replies to a line depend on the catalogue and the line's number alone, so lines behind others begin
-- from the catalogue that those left, with the next number. By induction over the first lines.
use Rattle.std.proofs.Common.{◌≡◌, ℕ, ◌+◌, List, [], ◌∷◌, ◌++◌, length, refl, sym, ap, ◌∙◌}
use Rattle.std.proofs.Common.{append_assoc, arith, inl, inr}
use Rattle.std.proofs.lemmas.Bool.{cases_Bool}
use Rattle.sz_commands.specs.Lines.{lines_of, is_blank}
use Rattle.sz_commands.specs.States.{SessionState, after_line}
use Rattle.sz_catalogue.specs.Responses.{reply_line}
use Rattle.sz_commands.specs.Transcript.{replies_to, after_lines}
use Rattle.sz_feed.specs.Laws.{RepliesGoOn, TranscriptsGoOn, BlankLinesAreCounted, OtherLinesHaveOneReply}
use Rattle.sz_feed.proofs.LawsLines.{lines-go_on}

-- the replies to some lines and then others
pub replies-go_on : RepliesGoOn
replies-go_on c n [] rest = let e : n ≡ n + 0 = omega arith in ap (λ (k : ℕ). replies_to c k rest) e
replies-go_on c n (line ∷ first) rest =
    let number : n + 1 + length first ≡ n + length (line ∷ first) = omega arith in
    elim (cases_Bool (is_blank line)) [
      | inl blank ↦
          rw blank (replies-go_on c (n + 1) first rest
          ∙ ap (λ (k : ℕ). replies_to c (n + 1) first ++ replies_to (after_lines c first) k rest) number)
      | inr other ↦
          rw other (ap (λ (ys : List ℕ). reply_line n (after_line c line).1 ++ ys)
          (replies-go_on (after_line c line).0 (n + 1) first rest
          ∙ ap (λ (k : ℕ). replies_to (after_line c line).0 (n + 1) first
          ++ replies_to (after_lines (after_line c line).0 first) k rest) number)
          ∙ sym (append_assoc (reply_line n (after_line c line).1) (replies_to (after_line c line).0 (n + 1) first)
          (replies_to (after_lines (after_line c line).0 first) (n + length (line ∷ first)) rest)))
    ]

-- the catalogue after some lines and then others
pub after_lines-append : (c : SessionState) (first rest : List (List ℕ))
    → after_lines c (first ++ rest) ≡ after_lines (after_lines c first) rest
after_lines-append c [] rest = refl
after_lines-append c (line ∷ first) rest = elim (cases_Bool (is_blank line)) [
  | inl blank ↦ rw blank (after_lines-append c first rest)
  | inr other ↦ rw other (after_lines-append (after_line c line).0 first rest)
]

-- the transcript of whole lines and what comes behind them
pub transcripts-go_on : TranscriptsGoOn
transcripts-go_on c first rest =
    let whole = lines_of (first ++ 10 ∷ []) in
    ap (replies_to c 1) (lines-go_on first rest) ∙ replies-go_on c 1 whole (lines_of rest)

-- a blank line is counted and has no reply
pub blank-counted : BlankLinesAreCounted
blank-counted c n line lines blank = rw blank refl

-- each other line has one reply
pub other-replied : OtherLinesHaveOneReply
other-replied c n line lines other = rw other refl
