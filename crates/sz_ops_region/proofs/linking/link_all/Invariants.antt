-- The cells of the layers before this one are linked.
use Rattle.std.proofs.Common.{◌≡◌, ◌*◌}
use Rattle.sz_cells.specs.Extent.{height_of}
use Rattle.sz_ops_region.specs.Linking.{AreLinked}
use Rattle.sz_ops_region.proofs.linking.link_all.Given as goal

abbrev pub invariant-loop-layer : goal.invariant-loop-layer
invariant-loop-layer l = record {
  end : l.layer-end ≡ l.array.extent.layers;
  linked : AreLinked l.t l.array l.words (l.layer * height_of l.array.extent * l.array.extent.cols);
}
