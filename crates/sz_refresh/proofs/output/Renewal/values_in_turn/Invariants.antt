-- The values of the runs before this one are computed, and the others are as they were.
use Rattle.std.proofs.Common.{◌≡◌, ◌+◌, length, map, take}
use Rattle.std.specs.Arc.{arc_value}
use Rattle.std.specs.List.{flat_map}
use Rattle.sz_cells.specs.Runs.{indexes_of}
use Rattle.sz_refresh.proofs.Outputs.{IsComputed}
use Rattle.sz_refresh.proofs.output.Renewal.values_in_turn.Given as goal

abbrev pub invariant-loop-run : goal.invariant-loop-run
invariant-loop-run l =
    IsComputed l.self.at.now (map (λ a. arc_value a) l.self.inputs.now) l.self.old.now.values l.values.items l.run-items
    l.run-index
    × (l.count ≡ l.fn.count + length (flat_map indexes_of (take l.run-index l.run-items)))
