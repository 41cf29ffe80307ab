-- A place that leads writes its region pair, and any other nothing.
use Rattle.std.proofs.Common.{arith, sym, ◌∙◌}
use Rattle.sz_frame.specs.Written.{region_by}
use Rattle.sz_frame.proofs.Fitting.{regions-more, regions-same, regions-few}
use Rattle.sz_frame.proofs.pieces.write_regions.Goals as goal
use Rattle.sz_frame.proofs.pieces.write_regions.Goals.{then-leads+in_ok-region_of+in_ok-lwrite, else-leads}

pub lwrite-requires : goal.lwrite-requires
lwrite-requires g c =
    let f = region_by (g.A.AtWork.site c.args.at.now) (g.A.AtWork.inputs c.args.at.now) c.args.start c.args.kept.now in
    let few = regions-few f c.args.kept.now c.loop-place.place c.args.lineage.now c.loop-place.lineage
    c.loop-place.invariant in
    omega (arith, few, c.requires.few, c.loop-place-test.true)

pub loop-place-preserved : goal.loop-place-preserved
loop-place-preserved g c =
    let f = region_by (g.A.AtWork.site c.args.at.now) (g.A.AtWork.inputs c.args.at.now) c.args.start c.args.kept.now in
    elim c.if-leads.branch [
      | then-leads+in_ok-region_of+in_ok-lwrite w ↦
          w.lineage-is
          ∙ regions-more f c.args.kept.now c.loop-place.place c.args.lineage.now c.loop-place.lineage
          w.lwrite.new.self w.in_ok-region_of.field-0 c.loop-place.invariant (sym c.leads.ensures ∙ w.if-leads.true)
          w.in_ok-region_of.ensures w.in_ok-lwrite.ensures.ok
      | else-leads w ↦
          w.lineage-is
          ∙ regions-same f c.args.kept.now c.loop-place.place c.args.lineage.now c.loop-place.lineage
          c.loop-place.invariant (sym c.leads.ensures ∙ w.if-leads.false)
    ]
