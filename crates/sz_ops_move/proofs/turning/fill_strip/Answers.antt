-- A row more is in the strip, and those before it stay: they are in other columns of it.
use Rattle.std.proofs.Common.{◌<◌, ◌*◌, ◌+◌, ℕ, arith, ap, sym, ◌∙◌, None, get_or, inl, inr}
use Rattle.std.proofs.lemmas.Bool.Decides.{eqb_tells}
use Rattle.sz_ops_move.proofs.Turned.{column-of}
use Rattle.sz_ops_move.proofs.turning.fill_strip.Goals as goal

pub loop-row-preserved : goal.loop-row-preserved
loop-row-preserved c = λ j r under low.
    let h = c.args.pitch in
    let row = c.loop-row.row in
    let short : r < h = omega (arith, low, c.loop-row-test.true, c.requires.pitch) in
    elim (eqb_tells r row) [
      | inl at ↦
          ap (λ (n : ℕ). get_or c.fill_column.new.strip (j * h + n) None) at.1
          ∙ c.fill_column.ensures.written j under
          ∙ ap (λ (n : ℕ). get_or c.args.cells.now (c.args.first + n * c.args.cols + j) None) (sym at.1)
      | inr apart ↦
          c.fill_column.ensures.others (j * h + r) (λ same. apart.1 (sym (column-of h r j short) ∙ same))
          ∙ c.loop-row.invariant j r under (omega (arith, low, apart.1))
    ]
