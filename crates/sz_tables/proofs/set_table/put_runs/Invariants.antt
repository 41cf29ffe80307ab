-- The key idea: the runs before this one stand behind the list, which never grows.
use Rattle.std.proofs.Common.{◌≡◌, ◌+◌, ◌++◌, take}
use Rattle.std.specs.Prelude.{vec_len, vec_capacity}
use Rattle.sz_tables.proofs.set_table.put_runs.Given as goal

abbrev pub invariant-loop-run : goal.invariant-loop-run
invariant-loop-run l = record {
  put : l.list.items ≡ l.initial.list.items ++ take l.run-index l.more;
  count : vec_len l.list ≡ vec_len l.initial.list + l.run-index;
  capacity : vec_capacity l.list ≡ vec_capacity l.initial.list;
}
