-- The entries so far are those of the numbers before this place, and there is room for the others.
use Rattle.std.proofs.Common.{◌≡◌, ◌≤◌, map, length, take}
use Rattle.std.specs.Prelude.{vec_len, vec_capacity}
use Rattle.sz_ops_move.specs.Entries.{entry_of}
use Rattle.sz_ops_move.proofs.lookup.push_entries.Given as goal

abbrev pub invariant-loop-k : goal.invariant-loop-k
invariant-loop-k l = record {
  made : l.entries.items ≡ map (entry_of l.cols l.table) (take l.k l.numbers);
  count : vec_len l.entries ≡ l.k;
  room : length l.numbers ≤ vec_capacity l.entries;
}
