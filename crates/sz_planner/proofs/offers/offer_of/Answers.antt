-- The key idea: each number is that of the table, at the output's size and the operator's degree.
use Rattle.std.proofs.Common.{◌≡◌, refl, ap, ◌∙◌}
use Rattle.sz_cells.specs.Extent.{size_of}
use Rattle.sz_planner.specs.Offers.{offer_of}
use Rattle.sz_planner.proofs.offers.offer_of.Goals as goal

pub returns-clause-value : goal.returns-clause-value
unfolding offer_of
returns-clause-value c =
    let size : c.from.result ≡ size_of c.args.node.now.out =
    c.from.ensures ∙ (c.size.ensures.value ∙ ap size_of c.out.ensures.value) in
    rw (
      c.units_over.ensures,
      c.from-2.ensures,
      c.from-3.ensures,
      c.row_for-row.ensures.bytes,
      c.row_for-row.ensures.back,
      c.row_for-row.ensures.forward,
      size,
      c.degree_of.ensures.value,
    )
    refl
