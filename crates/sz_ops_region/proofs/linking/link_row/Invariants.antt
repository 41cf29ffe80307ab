-- The cells before this one are linked, and the word of the cell to its left is known.
use Rattle.std.proofs.Common.{◌≡◌, ◌+◌, ◌*◌}
use Rattle.sz_ops_region.specs.declared.sides.Side.TheVariants.{Left}
use Rattle.sz_ops_region.specs.Linking.{AreLinked, IsWordOn}
use Rattle.sz_ops_region.proofs.linking.link_row.Given as goal

abbrev pub invariant-loop-col : goal.invariant-loop-col
invariant-loop-col l = record {
  end : l.col-end ≡ l.array.extent.cols;
  linked : AreLinked l.t l.array l.words (l.row * l.array.extent.cols + l.col);
  left : IsWordOn l.words l.array.extent (record { row = l.row; col = l.col }) Left l.left;
}
