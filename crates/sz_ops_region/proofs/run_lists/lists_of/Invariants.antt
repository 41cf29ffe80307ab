-- The runs so far are those of the cells before this stretch.
use Rattle.std.proofs.Common.{◌≡◌, ◌+◌, length, get_or}
use Rattle.sz_ops_region.specs.Sets.{AreLists}
use Rattle.sz_ops_region.proofs.run_lists.lists_of.Given as goal

abbrev pub invariant-loop-stretch : goal.invariant-loop-stretch
invariant-loop-stretch l = record {
  end : l.stretch-end + 1 ≡ length l.starts.items;
  lists : AreLists l.marks (get_or l.starts.items l.stretch 0) l.count l.lists.items;
}
