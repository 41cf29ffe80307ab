-- The cells of each label are a component.
use Rattle.std.proofs.Common.{ap, ◌∙◌, subst, w64}
use Rattle.std.specs.Prelude.{ℤ}
use Rattle.std.proofs.lemmas.Int.{to_z-of_z}
use Rattle.sz_cells.specs.Extent.{Extent}
use Rattle.sz_ops_region.specs.Numbers.{AreLabels}
use Rattle.sz_ops_region.specs.Labelled.{sets_labelled}
use Rattle.sz_ops_region.proofs.Labelled.{labelled-right}
use Rattle.sz_ops_region.proofs.cell_labels.Labels.of.Goals as goal

pub returns : goal.returns
returns c =
    let g = c.args.array.now in
    let words = c.in_ok-words.words.items in
    let are : AreLabels c.args.t g words =
    subst (λ (z : ℤ). AreLabels z g words) (to_z-of_z w64 c.args.t c.ranges.t) c.in_ok-words.ensures in
    ap (λ (e : Extent). sets_labelled e words) c.shape-shape.ensures ∙ labelled-right c.args.t g words are
