-- The key idea: the bytes before this one stand behind the list, which never grows.
use Rattle.std.proofs.Common.{◌≡◌, ◌+◌, ◌++◌, take}
use Rattle.std.specs.Prelude.{vec_len, vec_capacity}
use Rattle.sz_tables.proofs.payload_table.put_bytes.Given as goal

abbrev pub invariant-loop-byte : goal.invariant-loop-byte
invariant-loop-byte l = record {
  put : l.list.items ≡ l.initial.list.items ++ take l.byte-index l.more;
  count : vec_len l.list ≡ vec_len l.initial.list + l.byte-index;
  capacity : vec_capacity l.list ≡ vec_capacity l.initial.list;
}
