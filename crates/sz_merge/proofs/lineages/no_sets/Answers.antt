-- The set of one input more has no cell either.
use Rattle.std.proofs.Common.{◌∙◌, false, ap}
use Rattle.std.specs.Arc.{arc_value}
use Rattle.sz_cells.specs.Extent.{Extent}
use Rattle.sz_cells.specs.Cells.{cells_where}
use Rattle.sz_spec.specs.Values.{extent_at}
use Rattle.sz_merge.proofs.Sets.{push-range, extent-read}
use Rattle.sz_merge.proofs.lineages.no_sets.Goals as goal

pub loop-input-preserved : goal.loop-input-preserved
loop-input-preserved c =
    let i = c.loop-input.input in
    push-range (λ a. arc_value a) (λ k. cells_where (extent_at c.args.ins.now k) (λ x. false)) c.loop-input.sets.items
    c.push.new.self.items c.in_ok-new.field-0 i c.loop-input.invariant c.in_ok-push.ensures.items
    (c.in_ok-new.ensures.ok ∙ c.in_ok-set.ensures
    ∙ ap (λ (e : Extent). cells_where e (λ x. false))
    (extent-read c.args.ins.now i c.index-ins-input.result c.loop-input-test.true c.index-ins-input.is))
