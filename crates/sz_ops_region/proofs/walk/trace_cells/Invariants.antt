-- What was added is what the cells whose numbers are below the index add, and each was counted.
use Rattle.std.proofs.Common.{◌≡◌, ◌+◌, map}
use Rattle.std.specs.Arc.{arc_value}
use Rattle.sz_cells.specs.Extent.{size_of}
use Rattle.sz_cells.specs.Cells.{with_those}
use Rattle.sz_spec.specs.declared.modes.Dir.TheVariants.{Back}
use Rattle.sz_spec.specs.Values.{input_at}
use Rattle.sz_spec.specs.Lineage.{related}
use Rattle.sz_frame.specs.Walks.{traced, added}
use Rattle.sz_ops_region.specs.Tracing.{AreMarked}
use Rattle.sz_ops_region.proofs.walk.trace_cells.Given as goal

abbrev pub invariant-loop-index : goal.invariant-loop-index
invariant-loop-index l =
    let s = l.work.at.now in
    let grids = map (λ a. arc_value a) l.work.inputs.now in
    record {
      shape : l.shape ≡ s.out;
      end : l.index-end ≡ size_of s.out;
      ticks : l.tally ≡ l.fn.tally + l.index;
      marks : l.marks.extent ≡ s.out;
      extent : l.to.extent ≡ s.out;
      marked : AreMarked l.work.t (input_at grids 0) l.marks l.to;
      added : l.to ≡ with_those l.fn.to (added s.out (traced Back (related s.op grids 0) l.from) l.index);
    }
