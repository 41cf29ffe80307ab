-- The words as values are the labels of the components.
use Rattle.std.proofs.Common.{◌≡◌, ℕ, List, Option, Some, map, ap, ◌∙◌, subst}
use Rattle.std.specs.Prelude.{ℤ, pos, IfOk}
use Rattle.sz_cells.specs.Cells.{Cells}
use Rattle.sz_spec.specs.Operators.Regions.{label_of}
use Rattle.sz_ops_region.proofs.Labelled.{labelled-words}
use Rattle.sz_ops_region.proofs.cell_labels.Labels.values.Goals as goal

pub returns : goal.returns
returns c =
    let kept = c.self.inside in
    let is = ap (λ (ws : List ℕ). map (λ w. Some (pos w)) ws) c.deref.ensures.value
    ∙ labelled-words kept.shape kept.words.items c.self.invariant.1 c.self.invariant.0
    ∙ ap (λ (xs : List Cells). map (λ s. Some (label_of s.indexes)) xs) c.self.view_is in
    subst (λ (xs : List (Option ℤ)). IfOk c.values_of.result (λ v. v.items ≡ xs)) is c.values_of.ensures
