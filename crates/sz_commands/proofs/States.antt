-- What commands do to a state.
use Rattle.std.proofs.Common.{◌≡◌, true, true≢false, refl, sym, ap, ◌∙◌, Option, Some, None}
use Rattle.sz_script.specs.declared.command.Command.{Command}
use Rattle.sz_script.specs.declared.command.Command.TheVariants as order
use Rattle.sz_script.specs.declared.refusal.Refusal.{Refusal}
use Rattle.std.specs.Prelude.{Result, Ok, Err}
use Rattle.sz_catalogue.specs.Holdings.{Holdings}
use Rattle.sz_catalogue.specs.Responses.{Response}
use Rattle.sz_catalogue.specs.Rules.{judged}
use Rattle.sz_catalogue.specs.Changes as changes
use Rattle.sz_catalogue.specs.Changes.{changes_no_version}
use Rattle.sz_commands.specs.Commands.{traced_along, most_along}
use Rattle.sz_commands.specs.States.{SessionState, apart, changed, accepted, after_judging, after_command}
use Rattle.sz_commands.specs.States.{after_reading}

-- a command that changes no version changes the catalogue alone
pub accepted-changed : (s : SessionState) (d : Holdings) (command : Command) (r : Response)
    → changes_no_version command ≡ true → (d, r) ≡ changes.accepted s.held command
    → accepted s command ≡ (record s { held = d }, r)
accepted-changed s d (order.Array name array) r kind is = ap (changed s) (sym is)
accepted-changed s d (order.Csv name array) r kind is = ap (changed s) (sym is)
accepted-changed s d (order.Layers name array) r kind is = ap (changed s) (sym is)
accepted-changed s d (order.Flow name flow) r kind is = ap (changed s) (sym is)
accepted-changed s d (order.Strategy name node list) r kind is = ap (changed s) (sym is)
accepted-changed s d (order.Plan name base units back forward) r kind is = ap (changed s) (sym is)
accepted-changed s d _ r kind is = cc

-- and nothing is traced for it
pub no-version-untraced : (s : SessionState) (command : Command) → changes_no_version command ≡ true
    → (traced_along s command ≡ 0) × (most_along s command ≡ 0)
no-version-untraced s (order.Ask n dir path named) kind = absurd (true≢false (sym kind))
no-version-untraced s (order.Explain n dir path named) kind = absurd (true≢false (sym kind))
no-version-untraced s (order.Refresh n i set) kind = absurd (true≢false (sym kind))
no-version-untraced s _ kind = (refl, refl)

-- ---- what is seen apart

-- what a command does is the same wherever a log ends, and whatever is kept of nodes
pub accepted-apart : (s : SessionState) (command : Command)
    → accepted (apart s) command ≡ (apart (accepted s command).0, (accepted s command).1)
accepted-apart s (order.Ask n dir path named) = refl
accepted-apart s (order.Merged n) = refl
accepted-apart s _ = refl

command-apart : (s : SessionState) (command : Command)
    → after_command (apart s) command ≡ (apart (after_command s command).0, (after_command s command).1)
command-apart s command = at (judged s.held command) where
  at : (rule : Option Refusal) → after_judging (apart s) command rule
      ≡ (apart (after_judging s command rule).0, (after_judging s command rule).1)
  at None = accepted-apart s command
  at (Some rule) = refl

pub reading-apart : (s : SessionState) (r : Result Command Refusal)
    → after_reading (apart s) r ≡ (apart (after_reading s r).0, (after_reading s r).1)
reading-apart s (Ok command) = command-apart s command
reading-apart s (Err rule) = refl

-- so where what it does is known, what is seen apart is too
pub accepted-seen : (s t : SessionState) (command : Command) (r : Response) → accepted s command ≡ (t, r)
    → accepted (apart s) command ≡ (apart t, r)
accepted-seen s t command r is = accepted-apart s command ∙ ap (λ (p : SessionState × Response). (apart p.0, p.1)) is

-- so is the reply to a command
pub reply-apart : (s : SessionState) (command : Command) → (after_command (apart s) command).1
    ≡ (after_command s command).1
reply-apart s command = ap (λ (p : SessionState × Response). p.1) (command-apart s command)
