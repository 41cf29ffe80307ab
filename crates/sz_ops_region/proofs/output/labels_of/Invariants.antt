-- The words so far are the labels of their cells, and the labels are those of their roots.
use Rattle.std.proofs.Common.{◌≡◌, ℕ, Some, length, map}
use Rattle.std.specs.Prelude.{pos}
use Rattle.std.specs.List.{range_with_len}
use Rattle.sz_ops_region.specs.Links.{AreRoots, label_by}
use Rattle.sz_ops_region.proofs.Settled.{AreSettled}
use Rattle.sz_ops_region.proofs.output.labels_of.Given as goal

abbrev pub invariant-loop-index : goal.invariant-loop-index
invariant-loop-index l = record {
  end : l.index-end ≡ length l.words;
  settled : AreSettled l.fn.words l.words l.index;
  made : (root : ℕ → ℕ) → AreRoots l.fn.words root → l.cells.items
      ≡ map (λ k. Some (pos (label_by l.fn.words root k))) (range_with_len 0 l.index);
}
