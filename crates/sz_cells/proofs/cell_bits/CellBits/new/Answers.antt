-- No bit of the new words is 1.
use Rattle.std.proofs.Common.{ℕ, ◌≡◌, ◌/◌, ◌+◌, replicate, length, ap, ◌∙◌, subst}
use Rattle.std.proofs.lemmas.List.{length-replicate}
use Rattle.sz_cells.specs.Extent.{size_of}
use Rattle.sz_cells.specs.Words.{has_bit, AreWordsOf}
use Rattle.sz_cells.proofs.Bitmaps.{cells_at-none, words-none, has_bit-none}
use Rattle.sz_cells.proofs.cell_bits.CellBits.new.Goals as goal

pub invariant_of-result : goal.invariant_of-result
invariant_of-result c =
    let zeros : c.in_ok-words.words.items ≡ replicate ((c.size.result + 63) / 64) 0 =
    c.in_ok-words.ensures.items_if_clones_equal (λ y same. same) in
    let count : (c.size.result + 63) / 64 ≡ (size_of c.args.shape + 63) / 64 = ap (λ (n : ℕ). (n + 63) / 64)
    c.size.ensures.value in
    let long : length c.in_ok-words.words.items ≡ (c.size.result + 63) / 64 = ap length zeros
    ∙ length-replicate {A = ℕ} ((c.size.result + 63) / 64) 0 in
    subst (λ (n : ℕ). AreWordsOf c.args.shape c.in_ok-words.words.items n 0) long
    (words-none c.args.shape c.in_ok-words.words.items (rw (← c.size.ensures.value) c.size.ensures.few) (long
    ∙ count)
    (λ k. rw zeros (has_bit-none ((c.size.result + 63) / 64) k)))

pub returns : goal.returns
returns c =
    let zeros : c.in_ok-words.words.items ≡ replicate ((c.size.result + 63) / 64) 0 =
    c.in_ok-words.ensures.items_if_clones_equal (λ y same. same) in
    cells_at-none c.args.shape (has_bit c.in_ok-words.words.items)
    (λ k below. rw zeros (has_bit-none ((c.size.result + 63) / 64) k))
