-- The index of a cell of the bitmap is one of the run.
use Rattle.std.proofs.Common.{◌≡◌, ℕ, ◌+◌, ◌-◌, ◌<◌, ◌||◌, Bool, true, false, ap, ap₂, sym, ◌∙◌, refl, arith}
use Rattle.std.specs.List.{list_any, range_with_len}
use Rattle.sz_cells.specs.Extent.{Extent, size_of, cell_of}
use Rattle.sz_cells.specs.Cells.{has}
use Rattle.sz_cells.proofs.Sets.{has-index}
use Rattle.sz_region.proofs.Meeting.{any-range_at, any-range_more}
use Rattle.sz_region.proofs.apart.meets_run.Goals as goal

pub overflow_add-index-end : goal.overflow_add-index-end
overflow_add-index-end c = omega (arith, c.requires.within, ap size_of c.shape-shape.ensures.value, c.size.ensures)

pub returns-then-has_index : goal.returns-then-has_index
returns-then-has_index c =
    let bits = c.args.bits.now in
    let i = c.loop-index.index in
    let below : i < size_of bits.extent = omega (arith, c.requires.within) in
    let here = has-index bits bits.extent i refl below ∙ sym c.has_index.ensures ∙ c.if-has_index.true in
    sym (any-range_at (λ (k : ℕ). has bits (cell_of bits.extent k)) i c.args.run.first
    (c.args.run.last - c.args.run.first + 1) (omega arith) (omega arith) here)

pub loop-index-preserved : goal.loop-index-preserved
loop-index-preserved c =
    let bits = c.args.bits.now in
    let i = c.loop-index.index in
    let first = c.args.run.first in
    let p : ℕ → Bool = λ k. has bits (cell_of bits.extent k) in
    let below : i < size_of bits.extent = omega (arith, c.requires.within) in
    let far : i + 1 - first ≡ i - first + 1 = omega arith in
    let place : first + (i - first) ≡ i = omega arith in
    let here : p (first + (i - first)) ≡ false =
    ap p place ∙ has-index bits bits.extent i refl below ∙ sym c.has_index.ensures ∙ c.if-has_index.false in
    ap (λ (n : ℕ). list_any p (range_with_len first n)) far ∙ any-range_more p first (i - first)
    ∙ ap₂ (λ (a b : Bool). a || b) c.loop-index.invariant here
