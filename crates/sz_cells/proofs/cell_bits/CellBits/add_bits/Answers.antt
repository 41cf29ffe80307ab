-- Each word adds the indexes of its bits; outside of the other's range no bit is 1.
use Rattle.std.proofs.Common.{ℕ, ◌≡◌, ◌<◌, ◌≤◌, false, length, subst, ap, sym, ◌∙◌}
use Rattle.std.proofs.Common.{arith}
use Rattle.std.proofs.lemmas.List.{get_or_read}
use Rattle.sz_cells.specs.Extent.{Extent, size_of}
use Rattle.sz_cells.specs.Cells.{Cells, union_of}
use Rattle.sz_cells.specs.Words.{has_bit}
use Rattle.sz_cells.proofs.WordBits.{has_bit-at}
use Rattle.sz_cells.proofs.Bitmaps.{own-cells, words-start, words-step, words-end, words-held, view-at}
use Rattle.sz_cells.proofs.cell_bits.CellBits.add_bits.Goals as goal

pub loop-word-init : goal.loop-word-init
loop-word-init c =
    words-start c.args.self.now (has_bit c.other.inside.words.items) c.other.inside.first
    (own-cells c.args.self.now c.self.inside.shape (has_bit c.self.inside.words.items) c.self.view_is)
    c.other.invariant.before

pub add_word-requires-clause-held : goal.add_word-requires-clause-held
add_word-requires-clause-held c =
    let words = c.other.inside.words.items in
    let inside : c.loop-word.word < length words = omega (arith, c.other.invariant.within) in
    let read = get_or_read words c.loop-word.word c.index.result.now inside c.index.ensures 0 in
    let same : c.other.inside.shape ≡ c.loop-word.self.extent =
    ap (λ (s : Cells). s.extent) c.other.view_is ∙ c.requires
    ∙ sym (ap (λ (s : Cells). s.extent) c.loop-word.invariant) in
    words-held c.loop-word.word c.index.result.now (size_of c.loop-word.self.extent) (has_bit words)
    (λ place low. rw read (sym (has_bit-at words c.loop-word.word place low)))
    (subst (λ (e : Extent). (k : ℕ) → size_of e ≤ k → has_bit words k ≡ false) same
    c.other.invariant.no_more)

pub loop-word-preserved : goal.loop-word-preserved
loop-word-preserved c =
    let words = c.other.inside.words.items in
    let inside : c.loop-word.word < length words = omega (arith, c.other.invariant.within) in
    let read = get_or_read words c.loop-word.word c.index.result.now inside c.index.ensures 0 in
    words-step c.args.self.now c.loop-word.self c.add_word.new.self (has_bit words) c.loop-word.word c.index.result.now
    c.loop-word.invariant
    (λ place low. rw read (sym (has_bit-at words c.loop-word.word place low))) c.add_word.ensures

pub returns : goal.returns
returns c =
    let words = c.other.inside.words.items in
    words-end c.args.self.now c.loop-word.self (has_bit words) c.loop-word.word c.loop-word.invariant
    (λ k high. c.other.invariant.after k (omega arith))
    ∙ ap (union_of c.args.self.now) (view-at c.other.inside.shape (has_bit words) c.args.other.now c.other.view_is
    c.args.self.now.extent c.requires)
