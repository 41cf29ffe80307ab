-- A place that leads writes its entry, and any other nothing.
use Rattle.std.proofs.Common.{arith, sym, ◌∙◌}
use Rattle.sz_frame.specs.Written.{entry_by}
use Rattle.sz_frame.proofs.Fitting.{entries-more, entries-same, entries-few}
use Rattle.sz_frame.proofs.pieces.write_entries.Goals as goal
use Rattle.sz_frame.proofs.pieces.write_entries.Goals.{then-leads+in_ok-entry_of+in_ok-lwrite_payload, else-leads}

pub lwrite_payload-requires : goal.lwrite_payload-requires
lwrite_payload-requires g c =
    let f = entry_by (g.A.AtWork.site c.args.at.now) (g.A.AtWork.inputs c.args.at.now) c.args.start c.args.kept.now in
    let few = entries-few f c.args.kept.now c.loop-place.place c.args.comp c.args.lineage.now c.loop-place.lineage
    c.loop-place.invariant in
    omega (arith, few, c.requires.few, c.loop-place-test.true)

pub loop-place-preserved : goal.loop-place-preserved
loop-place-preserved g c =
    let f = entry_by (g.A.AtWork.site c.args.at.now) (g.A.AtWork.inputs c.args.at.now) c.args.start c.args.kept.now in
    elim c.if-leads.branch [
      | then-leads+in_ok-entry_of+in_ok-lwrite_payload w ↦
          w.lineage-is
          ∙ entries-more f c.args.kept.now c.loop-place.place c.args.comp c.args.lineage.now c.loop-place.lineage
          w.lwrite_payload.new.self w.in_ok-entry_of.field-0 c.loop-place.invariant
          (sym c.leads.ensures ∙ w.if-leads.true)
          w.in_ok-entry_of.ensures w.in_ok-lwrite_payload.ensures.ok
      | else-leads w ↦
          w.lineage-is
          ∙ entries-same f c.args.kept.now c.loop-place.place c.args.comp c.args.lineage.now c.loop-place.lineage
          c.loop-place.invariant (sym c.leads.ensures ∙ w.if-leads.false)
    ]
