-- No run so far has an asked index.
use Rattle.std.proofs.Common.{◌≡◌, ◌/◌, false, length, take}
use Rattle.std.specs.List.{list_any}
use Rattle.sz_cells.specs.Runs.{covers}
use Rattle.sz_cells.specs.SetWords.{runs_spelled}
use Rattle.sz_payload.proofs.runs.runs_meet.Given as goal

abbrev pub invariant-loop-index : goal.invariant-loop-index
invariant-loop-index l = record {
  count : l.index-end ≡ length l.body / 8;
  unmet : list_any (covers (take l.index (runs_spelled l.body))) l.from.indexes ≡ false;
}
