-- The first row makes the set one that is given by a test, and each further one widens the test.
use Rattle.std.proofs.Common.{refl, inl, inr, arith, ◌∙◌}
use Rattle.sz_spec.proofs.CodeSquare.{rows-first, rows-next, rows-all}
use Rattle.sz_spec.proofs.squares.add_rectangle.Goals as goal

pub loop-row-init : goal.loop-row-init
loop-row-init c = inl (refl, refl)

pub loop-row-preserved : goal.loop-row-preserved
loop-row-preserved c =
    let b = c.args.bounds in
    inr (elim c.loop-row.invariant [
      | inl none ↦
          c.add_row.ensures ∙ (rw none.1 (rows-first c.args.to.now b.top c.loop-row.row b.left b.right none.0))
      | inr some ↦
          c.add_row.ensures
          ∙ (rw some (rows-next c.args.to.now b.top c.loop-row.row b.left b.right c.loop-row.auto.row))
    ])

pub returns : goal.returns
returns c =
    elim c.loop-row.invariant [
      | inl none ↦ absurd (omega (arith, none.0))
      | inr some ↦ some ∙ rows-all c.args.to.now c.args.bounds c.loop-row.row (omega arith)
    ]
