-- The cells of the window are those to which the output cell is mapped.
use Rattle.std.proofs.Common.{◌≡◌, ℕ, Bool, length, sym, ap, subst, ◌∙◌}
use Rattle.sz_cells.specs.declared.Cell.{Cell}
use Rattle.sz_cells.specs.Extent.{Extent}
use Rattle.sz_cells.specs.Cells.{any_cell, has}
use Rattle.sz_cells.proofs.Sets.{any_cell-ext}
use Rattle.sz_spec.specs.declared.op.Op.TheVariants.{Block}
use Rattle.sz_spec.specs.Values.{extent_at}
use Rattle.sz_spec.specs.Lineage.{mapped}
use Rattle.sz_frame.proofs.Added.{own-at}
use Rattle.sz_ops_local.specs.Windows.{is_in, IsWindow}
use Rattle.sz_ops_local.proofs.Blocks.{block-input}
use Rattle.sz_ops_local.proofs.block.meets.Goals as goal

pub meets-requires : goal.meets-requires
meets-requires c =
    let ins = c.args.at.now.ins in
    let one : length ins ≡ 1 = rw c.requires.op at c.ins.ensures.arity in
    let near = c.requires.from ∙ ap (extent_at ins) (block-input ins c.args.input one c.requires.input) in
    subst (λ (e : Extent). IsWindow e c.window_of.result) (sym near) c.window_of.ensures.window

pub returns : goal.returns
returns c =
    let a = c.args in
    let ins = a.at.now.ins in
    let from = a.from.now in
    let one : length ins ≡ 1 = rw c.requires.op at c.ins.ensures.arity in
    let zero = block-input ins a.input one c.requires.input in
    let near = c.requires.from ∙ ap (extent_at ins) zero in
    let own = own-at from (extent_at ins 0) near c.shape.ensures.rising in
    let p = is_in c.window_of.result in
    let q : Cell → Bool = λ x. mapped (Block a.how a.h a.w) ins a.input a.out x in
    c.meets.ensures ∙ ap (any_cell p) own
    ∙ any_cell-ext (extent_at ins 0) (has from) p q
    (λ x held passes. sym (ap (λ (i : ℕ). mapped (Block a.how a.h a.w) ins i a.out x) zero
    ∙ c.window_of.ensures.cells x held))
    ∙ sym (ap (any_cell q) own)
