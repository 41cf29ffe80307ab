-- The kinds before this number are counted.
use Rattle.std.proofs.Common.{◌≡◌, ◌<◌, length}
use Rattle.std.specs.List.{filter, range_with_len}
use Rattle.sz_merge.specs.Marks.{is_kind}
use Rattle.sz_merge.proofs.grouping.Grouping.count_kinds.Given as goal

abbrev pub invariant-loop-number : goal.invariant-loop-number
invariant-loop-number l = record {
  counted : l.count ≡ length (filter (is_kind l.self) (range_with_len 0 l.number));
  few : l.count < l.number;
}
