-- Each word adds the indexes of the run that are in it: the run begins in the first word and ends in the last.
use Rattle.std.proofs.Common.{◌<◌, subst, ap, sym, ◌∙◌}
use Rattle.sz_cells.specs.Extent.{Extent, size_of}
use Rattle.sz_cells.specs.Cells.{union_of}
use Rattle.sz_cells.specs.Runs.{is_in}
use Rattle.sz_cells.specs.Words.{has_bit}
use Rattle.sz_cells.proofs.Bitmaps.{own-cells, words-start, words-step, words-end, words-held, run-before, run-after}
use Rattle.sz_cells.proofs.Bitmaps.{run-past, run_cells-at}
use Rattle.sz_cells.proofs.cell_bits.CellBits.add_run.Goals as goal

pub loop-word-init : goal.loop-word-init
loop-word-init c =
    words-start c.args.self.now (is_in c.args.run) _ (own-cells c.args.self.now c.self.inside.shape
    (has_bit c.self.inside.words.items) c.self.view_is) (run-before c.args.run)

pub add_word-requires-clause-held : goal.add_word-requires-clause-held
add_word-requires-clause-held c =
    let within = subst (λ (e : Extent). c.args.run.last < size_of e) (sym (ap (λ s. s.extent) c.loop-word.invariant))
    c.requires.within in
    words-held c.loop-word.word c.bits_of_run.result (size_of c.loop-word.self.extent) (is_in c.args.run)
    c.bits_of_run.ensures
    (λ k past. run-past c.args.run (size_of c.loop-word.self.extent) k within past)

pub loop-word-preserved : goal.loop-word-preserved
loop-word-preserved c =
    words-step c.args.self.now c.loop-word.self c.add_word.new.self (is_in c.args.run) c.loop-word.word
    c.bits_of_run.result c.loop-word.invariant c.bits_of_run.ensures c.add_word.ensures

pub returns : goal.returns
returns c =
    words-end c.args.self.now c.loop-word.self (is_in c.args.run) c.loop-word.word c.loop-word.invariant
    (λ k high. run-after c.args.run c.loop-word.word k c.loop-word-test.false high)
    ∙ ap (union_of c.args.self.now) (sym (run_cells-at c.args.self.now.extent c.args.run c.requires.order
    c.requires.within))
