-- The cells of the rows before this one are linked.
use Rattle.std.proofs.Common.{◌≡◌, ◌*◌}
use Rattle.sz_ops_region.specs.Linking.{AreLinked}
use Rattle.sz_ops_region.proofs.linking.link_layer.Given as goal

abbrev pub invariant-loop-row : goal.invariant-loop-row
invariant-loop-row l = record {
  end : l.row-end ≡ l.band.end;
  linked : AreLinked l.t l.array l.words (l.row * l.array.extent.cols);
}
