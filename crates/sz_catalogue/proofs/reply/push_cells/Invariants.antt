-- The text so far is what it was, and the cells of the runs so far.
use Rattle.std.proofs.Common.{◌≡◌, ◌++◌, take}
use Rattle.std.specs.String.{string_bytes}
use Rattle.std.specs.List.{flat_map}
use Rattle.sz_cells.specs.Runs.{indexes_of}
use Rattle.sz_catalogue.specs.Responses.{cell_text}
use Rattle.sz_catalogue.proofs.reply.push_cells.Given as goal

abbrev pub invariant-loop-run : goal.invariant-loop-run
invariant-loop-run l =
    string_bytes l.text
    ≡ string_bytes l.initial.text
    ++ flat_map (cell_text l.shape) (flat_map indexes_of (take l.run-index l.run-items))
