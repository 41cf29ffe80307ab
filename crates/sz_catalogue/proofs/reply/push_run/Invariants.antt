-- The text so far is what it was, and the cells of the run so far.
use Rattle.std.proofs.Common.{◌≡◌, ◌++◌, ◌-◌}
use Rattle.std.specs.String.{string_bytes}
use Rattle.std.specs.List.{flat_map, range_with_len}
use Rattle.sz_catalogue.specs.Responses.{cell_text}
use Rattle.sz_catalogue.proofs.reply.push_run.Given as goal

abbrev pub invariant-loop-index : goal.invariant-loop-index
invariant-loop-index l =
    string_bytes l.text
    ≡ string_bytes l.initial.text
    ++ flat_map (cell_text l.shape) (range_with_len l.fn.run.first (l.index - l.fn.run.first))
