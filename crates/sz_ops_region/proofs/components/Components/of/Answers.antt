-- The marks are right, and each set is that of the cells of its number.
use Rattle.std.proofs.Common.{sym, ap, ◌∙◌, subst, w64, to_z, of_z}
use Rattle.std.specs.Prelude.{ℤ}
use Rattle.std.proofs.lemmas.Int.{to_z-of_z}
use Rattle.sz_cells.specs.Extent.{size_of}
use Rattle.sz_ops_region.specs.Numbers.{AreNumbers}
use Rattle.sz_ops_region.proofs.Sets.{aid-right, aid-sets}
use Rattle.sz_ops_region.proofs.components.Components.of.Goals as goal

pub invariant_of-result : goal.invariant_of-result
invariant_of-result c =
    let are = c.in_ok-numbers.ensures in (
      are.long ∙ sym (ap size_of c.shape-shape.ensures),
      aid-sets (to_z w64 (of_z w64 c.args.t)) c.args.array.now c.shape-shape.result c.in_ok-numbers.numbers.marks
          c.in_ok-numbers.numbers.count c.in_ok-components.components.items are c.in_ok-components.ensures,
    )

pub returns : goal.returns
returns c =
    let marks = c.in_ok-numbers.numbers.marks in
    let count = c.in_ok-numbers.numbers.count in
    let are = subst (λ (z : ℤ). AreNumbers z c.args.array.now marks count) (to_z-of_z w64 c.args.t c.ranges.t)
    c.in_ok-numbers.ensures in
    aid-right c.args.t c.args.array.now c.shape-shape.result marks count c.in_ok-components.components.items are
    c.shape-shape.ensures c.in_ok-components.ensures
