-- The first and the last word of the run are cut, the words between are whole.
use Rattle.sz_cells.proofs.WordBits.{bits-of_run}
use Rattle.sz_cells.proofs.words.bits_of_run.Goals as goal
use Rattle.sz_cells.proofs.words.bits_of_run.Goals.{then-word-run, else-word-run, then-word-run-2, else-word-run-2}

pub returns : goal.returns
returns c =
    bits-of_run c.args.run c.args.word c.if-word-run.from c.if-word-run-2.upto c.requires.from c.requires.upto
    (λ same. elim c.if-word-run.branch [
      | then-word-run w ↦ w.from-is
      | else-word-run w ↦
          absurd (w.if-word-run.false same)
    ])
    (λ other. elim c.if-word-run.branch [
      | then-word-run w ↦ absurd (other w.if-word-run.true)
      | else-word-run w ↦
          w.from-is
    ])
    (λ same. elim c.if-word-run-2.branch [
      | then-word-run-2 w ↦ w.upto-is
      | else-word-run-2 w ↦
          absurd (w.if-word-run-2.false same)
    ])
    (λ other. elim c.if-word-run-2.branch [
      | then-word-run-2 w ↦ absurd (other w.if-word-run-2.true)
      | else-word-run-2 w ↦ w.upto-is
    ])
