-- So many sets stand one behind the other, and were written in the other spelling.
use Rattle.std.proofs.Common.{◌≡◌, ◌+◌, ◌++◌, List, length}
use Rattle.std.specs.List.{All, flat_map}
use Rattle.sz_cells.specs.Cells.{Cells}
use Rattle.sz_cells.specs.SetBytes.{IsSetOf}
use Rattle.sz_region.specs.Counted.{IsAt}
use Rattle.sz_short.specs.Ways.{read_bytes, written_bytes}
use Rattle.sz_short.proofs.pay.respell_sets.Given as goal

abbrev pub invariant-loop-index : goal.invariant-loop-index
invariant-loop-index l = record {
  sets : List Cells;
  count : length sets ≡ l._index;
  each : All (IsSetOf l.out) sets;
  bytes : IsAt l.bytes (l.at + 4) l.place (flat_map (read_bytes l.way) sets);
  items : l.to.items ≡ l.initial.to.items ++ flat_map (written_bytes l.way) sets;
}
