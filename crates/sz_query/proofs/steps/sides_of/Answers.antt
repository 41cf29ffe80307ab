-- The walk makes the bitmap of the step at the index.
use Rattle.std.proofs.Common.{◌<◌, length, map, ap, ◌∙◌, arith}
use Rattle.std.proofs.lemmas.List.{length-map}
use Rattle.sz_cells.specs.Cells.{no_cells}
use Rattle.sz_query.specs.Views.{view_of}
use Rattle.sz_query.specs.Sides.{empty_sides}
use Rattle.sz_query.proofs.OnWay.{steps-inputs, step-input, one-more}
use Rattle.sz_query.proofs.steps.sides_of.Goals as goal

pub bounds-inputs-index : goal.bounds-inputs-index
bounds-inputs-index c =
    omega (
      arith,
      steps-inputs c.args.dir (map view_of c.args.views.now) c.args.inputs.now c.args.cells.now.extent c.requires,
      length-map c.args.views.now view_of,
      c.loop-index-test.true,
      c.loop-index.invariant.0,
    )

pub far_shape-shape-requires : goal.far_shape-shape-requires
far_shape-shape-requires c =
    step-input c.args.dir c.args.views.now c.args.inputs.now c.args.cells.now.extent c.loop-index.index
    c.index-views-index.result c.requires c.loop-index-test.true c.index-views-index.is

pub loop-index-preserved : goal.loop-index-preserved
loop-index-preserved c =
    let empty = c.in_ok-take.ensures ∙ ap no_cells c.far_shape-shape.ensures in
    let few : c.loop-index.index < length c.args.inputs.now = omega (
      arith,
      steps-inputs c.args.dir (map view_of c.args.views.now) c.args.inputs.now c.args.cells.now.extent c.requires,
      length-map c.args.views.now view_of,
      c.loop-index-test.true,
      c.loop-index.invariant.0,
    ) in (
      c.loop-index.invariant.0,
      one-more c.args.dir c.args.views.now c.args.inputs.now c.loop-index.index
          c.index-views-index.result c.loop-index.sides.items c.push.new.self.items
          (empty_sides c.args.dir (map view_of c.args.views.now) c.args.inputs.now) c.in_ok-take.field-0
          c.loop-index-test.true few c.index-views-index.is empty
          c.in_ok-push.ensures.items c.loop-index.invariant.1,
    )
