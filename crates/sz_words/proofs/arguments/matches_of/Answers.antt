-- The command is the one of the definitions, so what clap promises of it is what they say.
use Rattle.std.proofs.Common.{[], ap, rules, sym, ◌∙◌, map, string_bytes}
use Rattle.clap.specs.Words.{App, HasKind, fault_of, is_simple, is_simple_and_free, matches_of}
use Rattle.sz_words.specs.Command.{faults_of, matches_in}
use Rattle.sz_words.proofs.Options.{has_numbers}
use Rattle.sz_words.proofs.arguments.matches_of.Goals as goal

pub returns-in-Ok-clause-ok : goal.returns-in-Ok-clause-ok
unfolding faults_of
returns-in-Ok-clause-ok c =
    sym (ap (λ (a : App). fault_of a (map string_bytes c.args.words.now)) c.in_ok-command.ensures)
    ∙ c.in-Ok.ensures.kinds (ap is_simple_and_free c.in_ok-command.ensures)

pub returns-in-Ok-clause-rows : goal.returns-in-Ok-clause-rows
unfolding matches_in
returns-in-Ok-clause-rows c =
    (c.in-Ok.ensures.matches (ap is_simple c.in_ok-command.ensures)).0
    ∙ ap (λ (a : App). matches_of a (map string_bytes c.args.words.now)) c.in_ok-command.ensures

pub returns-in-Ok-clause-numbers : goal.returns-in-Ok-clause-numbers
returns-in-Ok-clause-numbers c =
    has_numbers c.in_ok-command.command c.in-Ok.found c.in-Ok.ensures.parsed c.in_ok-command.ensures

pub returns-clause-usage : goal.returns-clause-usage
unfolding faults_of
returns-clause-usage c =
    let app_is = ap (λ (a : App). fault_of a (map string_bytes c.args.words.now)) c.in_ok-command.ensures in
    let kinds = c.in-Err.ensures.kinds (ap is_simple_and_free c.in_ok-command.ensures) in
    λ _ none.
    let kind : HasKind [] c.in-Err.e = rw (app_is ∙ none) at kinds in
    search (kind, rules)
