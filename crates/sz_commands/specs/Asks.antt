-- Asks beside one another: how far each is, and what they say.
use Rattle.std.specs.Prelude.{◌≡◌, ℕ, ◌≤◌, List, Bool, true, false, Some, None, ⊤}
use Rattle.std.specs.Prelude.{sum_by}
use Rattle.std.specs.List.{flat_map}
use Rattle.sz_spec.specs.declared.modes.Dir.{Dir}
use Rattle.sz_cells.specs.Cells.{Cells}
use Rattle.sz_spec.specs.Paths.{Step}
use Rattle.sz_script.specs.declared.command.NamedCell.{NamedCell}
use Rattle.sz_script.specs.declared.command.Command.{Command}
use Rattle.sz_script.specs.declared.command.Command.TheVariants as command
use Rattle.sz_script.specs.Right.{is_right}
use Rattle.sz_commands.specs.States.{SessionState, after_command}
use Rattle.sz_catalogue.specs.Rules.{judged}
use Rattle.sz_catalogue.specs.Responses.{Response, reply_line}
use Rattle.sz_catalogue.specs.Responses as responses
use Rattle.sz_commands.specs.Commands.{traced_for, most_for}
use Rattle.sz_versions.specs.Searches.{Search, IsAnswerTo}
use Rattle.sz_commands.specs.Inquiries.{IsInquiryOf}
use Rattle.sz_commands.specs.declared.asking.AskLine.{AskLine}
use Rattle.sz_commands.specs.declared.asking.Asked.{Asked}
use Rattle.sz_commands.specs.declared.asking.Asked.TheVariants as asked

-- ---- which commands

-- the command is an ask
abbrev pub is_ask : Command → Bool
is_ask (command.Ask n dir path named) = true
is_ask _ = false

-- the line's command is an ask, with the names and the lists of one that was read
abbrev pub IsAskLine : AskLine → Type 0
IsAskLine l = (is_ask l.ask ≡ true) × (is_right l.ask ≡ true)

-- ---- what they say

-- the reply to the line
abbrev pub ask_reply : SessionState → AskLine → Response
ask_reply c l = (after_command c l.ask).1

-- the reply lines of these lines, in their order: none changes what is held
abbrev pub asks_text : SessionState → List AskLine → List ℕ
asks_text c lines = flat_map (λ (l : AskLine). reply_line l.number (ask_reply c l)) lines

-- how many cells are told as traced for them: at least, and at most
abbrev pub traced_for_asks : SessionState → List AskLine → ℕ
traced_for_asks c lines = sum_by (λ (l : AskLine). traced_for c l.ask) lines

abbrev pub most_for_asks : SessionState → List AskLine → ℕ
most_for_asks c lines = sum_by (λ (l : AskLine). most_for c l.ask) lines

-- ---- how far an ask is

-- The ask of a line, which no rule refuses, is searched for.
pub record IsSearched (c : SessionState) (l : AskLine) (number : ℕ) (s : Search) : Type 0 where
  pub line : number ≡ l.number
  pub judged : judged c.held l.ask ≡ None
  pub version : ℕ
  pub dir : Dir
  pub path : List Step
  pub named : List NamedCell
  pub is : l.ask ≡ command.Ask version dir path named
  pub search : IsInquiryOf c version dir path named s

-- Before it is answered, an ask is refused by its rule, or is open.
abbrev pub IsBegun : SessionState → AskLine → Asked → Type 0
IsBegun c l (asked.Refused rule) = judged c.held l.ask ≡ Some rule
IsBegun c l (asked.Open number s) = IsSearched c l number s
IsBegun c l (asked.Done found tally) = ⊥
IsBegun c l asked.Lost = ⊥

-- An open ask was answered, or there was no memory; any other is as it was.
abbrev pub IsWorked : Asked → Asked → Type 0
IsWorked (asked.Open number s) (asked.Done found tally) =
    IsAnswerTo s found × (tally ≡ found.traced)
IsWorked (asked.Open number s) asked.Lost = ⊤
IsWorked (asked.Open number s) (asked.Refused rule) = ⊥
IsWorked (asked.Open number s) (asked.Open n t) = ⊥
IsWorked a b = b ≡ a

-- These cells are the reply to a line, and so much was told as traced.
pub record IsReplyTo (c : SessionState) (l : AskLine) (cells : Cells) (count : ℕ) : Type 0 where
  pub reply : ask_reply c l ≡ responses.cells cells
  pub least : traced_for c l.ask ≤ count
  pub most : count ≤ most_for c l.ask
  pub few : count ≤ 33554432

-- Behind its answer, an ask has its rule or its cells, or there was no memory.
abbrev pub IsEnded : SessionState → AskLine → Asked → Type 0
IsEnded c l (asked.Refused rule) = judged c.held l.ask ≡ Some rule
IsEnded c l (asked.Open number s) = ⊤
IsEnded c l (asked.Done found tally) = IsReplyTo c l found.cells tally
IsEnded c l asked.Lost = ⊤
