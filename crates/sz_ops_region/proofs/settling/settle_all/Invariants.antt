-- The words so far are the labels of their cells.
use Rattle.std.proofs.Common.{◌≡◌, length}
use Rattle.sz_ops_region.proofs.Settled.{AreSettled}
use Rattle.sz_ops_region.proofs.settling.settle_all.Given as goal

abbrev pub invariant-loop-index : goal.invariant-loop-index
invariant-loop-index l = record {
  end : l.index-end ≡ length l.words;
  settled : AreSettled l.fn.words l.words l.index;
}
