-- The text so far is what it was, and the ways so far.
use Rattle.std.proofs.Common.{◌≡◌, ◌++◌, take}
use Rattle.std.specs.String.{string_bytes}
use Rattle.std.specs.List.{flat_map}
use Rattle.sz_script.specs.Words.{name_of_strategy}
use Rattle.sz_catalogue.specs.Responses.{word_text}
use Rattle.sz_catalogue.proofs.reply.push_ways.Given as goal

abbrev pub invariant-loop-way : goal.invariant-loop-way
invariant-loop-way l =
    string_bytes l.text
    ≡ string_bytes l.initial.text ++ flat_map (λ s. word_text (name_of_strategy s)) (take l.way-index l.ways)
