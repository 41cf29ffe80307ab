-- So many sets stand one behind the other, and were written in the other spelling.
use Rattle.std.proofs.Common.{◌≡◌, ◌+◌, ◌++◌, List, length}
use Rattle.std.specs.List.{All, flat_map}
use Rattle.sz_region.specs.Counted.{IsAt}
use Rattle.sz_region.specs.FullBytes.{Listed, IsListed}
use Rattle.sz_short.specs.ShortStores.{listed_by}
use Rattle.sz_short.specs.Ways.{read_bytes, written_bytes}
use Rattle.sz_short.proofs.full.respell_table.Given as goal

abbrev pub invariant-loop-index : goal.invariant-loop-index
invariant-loop-index l = record {
  table : List Listed;
  count : length table ≡ l._index;
  each : All (IsListed l.out l.ins) table;
  bytes : IsAt l.bytes (l.at + 4) l.place (flat_map (listed_by (read_bytes l.way)) table);
  items : l.to.items ≡ l.initial.to.items ++ flat_map (listed_by (written_bytes l.way)) table;
}
