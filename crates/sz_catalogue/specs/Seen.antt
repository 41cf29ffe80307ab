-- The response that a reply's value is, without where it lies in memory, and what judging gave.
use Rattle.std.specs.Prelude.{◌≡◌, Option, Some, None, Result, Ok, Err}
use Rattle.std.specs.Arc.{arc_value}
use Rattle.sz_script.specs.declared.refusal.Refusal.{Refusal}
use Rattle.sz_script.specs.declared.command.LineFault.{LineFault}
use Rattle.sz_script.specs.declared.command.LineFault.TheVariants as fault
use Rattle.sz_catalogue.specs.declared.reply.Reply.{Reply}
use Rattle.sz_catalogue.specs.declared.reply.Reply.TheVariants as reply
use Rattle.sz_catalogue.specs.Responses as responses

abbrev pub response_of : Reply → responses.Response
response_of (reply.Array name version) = responses.array_held name version
response_of (reply.Flow name) = responses.flow_held name
response_of (reply.Strategy name node) = responses.strategy_set name node
response_of (reply.Started version) = responses.started version
response_of (reply.Done version) = responses.done version
response_of (reply.Cells cells) = responses.cells cells
response_of (reply.Explain used traced) = responses.explained used traced
response_of (reply.Values array) = responses.values (arc_value array)
response_of (reply.Plan cost units list) = responses.planned cost units list
response_of (reply.Refreshed version cells) = responses.refreshed version cells
response_of (reply.Merging version) = responses.merging version
response_of (reply.Merged version kinds) = responses.merged version kinds.items
response_of (reply.Refused rule) = responses.refused rule

-- what judging a command gave: nothing where no rule refuses it, or the refusal, unless memory ran
-- out
abbrev pub Judges : {U : Type 0} → Option Refusal → Result U LineFault → Type 0
Judges rule (Ok done) = rule ≡ None
Judges rule (Err (fault.Refused refusal)) = rule ≡ Some refusal
Judges rule (Err fault.NoMemory) = Unit {0}
