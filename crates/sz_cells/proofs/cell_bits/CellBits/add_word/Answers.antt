-- The index of a bit is a word and a place, so what is added to a word is added to its indexes alone.
use Rattle.std.proofs.Common.{◌<◌, ◌≤◌, ◌≡◌, ℕ, length, false, subst, sym, ap, arith}
use Rattle.std.proofs.lemmas.List.{get_or_read}
use Rattle.sz_cells.specs.Extent.{Extent, size_of}
use Rattle.sz_cells.specs.Cells.{Cells}
use Rattle.sz_cells.specs.Words.{words_for, is_in_word}
use Rattle.sz_cells.proofs.Bitmaps.{word-added, words-or}
use Rattle.sz_cells.proofs.cell_bits.CellBits.add_word.Goals as goal

pub index_mut-requires : goal.index_mut-requires
index_mut-requires c =
    let inside = subst (λ (e : Extent). c.args.word < words_for e)
    (sym (ap (λ (a : Cells). a.extent) c.self.view_is)) c.requires.within in
    omega (arith, c.self.invariant.enough, c.self.inside.words.ok.0)

pub overflow_add-word : goal.overflow_add-word
overflow_add-word c =
    let inside = subst (λ (e : Extent). c.args.word < words_for e)
    (sym (ap (λ (a : Cells). a.extent) c.self.view_is)) c.requires.within in
    omega (arith, c.self.invariant.few)

pub invariant_of-self : goal.invariant_of-self
invariant_of-self c =
    let same = sym (ap (λ (a : Cells). a.extent) c.self.view_is) in
    let within = subst (λ (e : Extent). c.args.word < words_for e) same c.requires.within in
    let held = subst (λ (e : Extent). (k : ℕ) → size_of e ≤ k → is_in_word c.args.word c.args.bits k
    ≡ false) same c.requires.held in
    let inside : c.args.word < length c.self.inside.words.items = omega (arith, c.self.invariant.enough) in
    rw (c.min-self-inside.ensures, c.max-self-inside.ensures)
    (words-or c.self.inside.shape c.self.inside.words.items c.self.inside.first c.self.inside.end c.args.word
    c.args.bits c.index_mut.result.now c.self.invariant inside
    (get_or_read c.self.inside.words.items c.args.word c.index_mut.result.now inside c.index_mut.ensures.value 0) held)

pub returns : goal.returns
returns c =
    let within = subst (λ (e : Extent). c.args.word < words_for e)
    (sym (ap (λ (a : Cells). a.extent) c.self.view_is)) c.requires.within in
    let inside : c.args.word < length c.self.inside.words.items = omega (arith, c.self.invariant.enough) in
    word-added c.self.inside.shape c.self.inside.words.items c.args.self.now c.args.word c.args.bits
    c.index_mut.result.now c.self.view_is inside
    (get_or_read c.self.inside.words.items c.args.word c.index_mut.result.now inside c.index_mut.ensures.value 0)
