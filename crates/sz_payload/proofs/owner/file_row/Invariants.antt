-- The number is filed under the indexes of the runs before this one.
use Rattle.std.proofs.Common.{◌≡◌, ◌++◌, take}
use Rattle.std.specs.List.{flat_map}
use Rattle.sz_cells.specs.Runs.{indexes_of}
use Rattle.sz_payload.specs.Owned.{rests}
use Rattle.sz_payload.proofs.owner.file_row.Given as goal

abbrev pub invariant-loop-run : goal.invariant-loop-run
invariant-loop-run l = record {
  keys : l.files.keys ≡ l.fn.files.keys;
  filed : l.files.entries
      ≡ l.fn.files.entries ++ rests l.fn.files.keys (flat_map indexes_of (take l.run-index l.runs)) l.row;
}
