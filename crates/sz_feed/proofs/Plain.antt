-- A session of no log goes by the catalogue alone.
--
-- The key idea: no version is found among those that a log gave where there are none, so each command does what it does
-- to the catalogue.
use Rattle.std.proofs.Common.{◌≡◌, ℕ, ◌+◌, List, [], ◌∷◌, ◌++◌, refl, ap, ◌∙◌, inl, inr, Option, Some, None}
use Rattle.std.specs.Prelude.{Result, Ok, Err}
use Rattle.std.proofs.lemmas.Bool.{cases_Bool}
use Rattle.sz_script.specs.Reading.{reading}
use Rattle.sz_script.specs.declared.command.Command.{Command}
use Rattle.sz_script.specs.declared.command.Command.TheVariants as order
use Rattle.sz_script.specs.declared.refusal.Refusal.{Refusal}
use Rattle.sz_catalogue.specs.Holdings.{Holdings}
use Rattle.sz_catalogue.specs.Rules.{judged}
use Rattle.sz_catalogue.specs.Responses.{Response, reply_line}
use Rattle.sz_catalogue.specs.Changes as changes
use Rattle.sz_commands.specs.Lines.{lines_of, is_blank}
use Rattle.sz_commands.specs.States.{SessionState, state_of, accepted, after_judging, after_reading, after_line}
use Rattle.sz_commands.specs.Transcript.{replies_to}
use Rattle.sz_feed.specs.Plain.{plain_replies}
use Rattle.sz_feed.specs.Laws.{SessionsOfNoLogArePlain}

-- a catalogue and a reply, as a session of no log has them
abbrev plainly : Holdings × Response → SessionState × Response
plainly p = (state_of p.0, p.1)

accepted-plain : (c : Holdings) (command : Command) → accepted (state_of c) command ≡ plainly
    (changes.accepted c command)
accepted-plain c (order.Ask n dir path named) = refl
accepted-plain c _ = refl

judging-plain : (c : Holdings) (command : Command) (rule : Option Refusal)
    → after_judging (state_of c) command rule ≡ plainly (changes.after_judging c command rule)
judging-plain c command None = accepted-plain c command
judging-plain c command (Some rule) = refl

reading-plain : (c : Holdings) (r : Result Command Refusal)
    → after_reading (state_of c) r ≡ plainly (changes.after_reading c r)
reading-plain c (Ok command) = judging-plain c command (judged c command)
reading-plain c (Err rule) = refl

line-plain : (c : Holdings) (line : List ℕ) → after_line (state_of c) line ≡ plainly (changes.after_line c line)
line-plain c line = reading-plain c (reading line)

replies-plain : (c : Holdings) (n : ℕ) (lines : List (List ℕ))
    → replies_to (state_of c) n lines ≡ plain_replies c n lines
replies-plain c n [] = refl
replies-plain c n (line ∷ lines) = elim (cases_Bool (is_blank line)) [
  | inl blank ↦ rw blank (replies-plain c (n + 1) lines)
  | inr other ↦
      rw other (ap (λ (q : SessionState × Response). reply_line n q.1 ++ replies_to q.0 (n + 1) lines)
      (line-plain c line)
      ∙ ap (λ (ys : List ℕ). reply_line n (changes.after_line c line).1 ++ ys)
      (replies-plain (changes.after_line c line).0 (n + 1) lines))
]

pub sessions-plain : SessionsOfNoLogArePlain
sessions-plain c bytes = replies-plain c 1 (lines_of bytes)
