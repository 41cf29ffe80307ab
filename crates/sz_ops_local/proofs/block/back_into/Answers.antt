-- The cells of the window are those to which the output cell is mapped.
use Rattle.std.proofs.Common.{◌≡◌, ℕ, true, length, sym, ap, subst, ◌∙◌, arith}
use Rattle.sz_cells.specs.Extent.{Extent, holds}
use Rattle.sz_spec.specs.declared.op.Op.TheVariants.{Block}
use Rattle.sz_spec.specs.Values.{extent_at}
use Rattle.sz_spec.specs.Lineage.{mapped}
use Rattle.sz_frame.proofs.Added.{with-ext}
use Rattle.sz_ops_local.specs.Windows.{is_in, IsWindow}
use Rattle.sz_frame.proofs.Inputs.{shape-is}
use Rattle.sz_ops_local.proofs.Blocks.{block-input}
use Rattle.sz_ops_local.proofs.block.back_into.Goals.{After-ins, After-index-ins-0}
use Rattle.sz_ops_local.proofs.block.back_into.Goals as goal

zero : (c : After-ins) → c.args.input ≡ 0
zero c = block-input c.args.at.now.ins c.args.input (rw c.requires.op at c.ins.ensures.arity) c.requires.input

first : (c : After-index-ins-0) → c.index-ins-0.result ≡ extent_at c.args.at.now.ins 0
first c =
    let one : length c.args.at.now.ins ≡ 1 = rw c.requires.op at c.ins.ensures.arity in
    shape-is c.args.at.now.ins 0 c.index-ins-0.result (omega (arith, one)) (rw c.ins.ensures.value at c.index-ins-0.is)

pub add-requires-clause-to : goal.add-requires-clause-to
add-requires-clause-to c =
    let s = goal.at.add-requires-clause-to c in
    c.requires.to ∙ ap (extent_at c.args.at.now.ins) (zero s.After-ins) ∙ sym (first s.After-index-ins-0)

pub add-requires-clause-window : goal.add-requires-clause-window
add-requires-clause-window c =
    subst (λ (e : Extent). IsWindow e c.window_of.result)
    (sym (first (goal.at.add-requires-clause-window c).After-index-ins-0)) c.window_of.ensures.window

pub returns : goal.returns
returns c =
    let a = c.args in
    let ins = a.at.now.ins in
    let only = zero (goal.at.returns c).After-ins in
    let far = c.requires.to ∙ ap (extent_at ins) only in
    c.add.ensures
    ∙ with-ext a.to.now (is_in c.window_of.result) (λ x. mapped (Block a.how a.h a.w) ins a.input a.out x)
    (λ x held. sym (ap (λ (i : ℕ). mapped (Block a.how a.h a.w) ins i a.out x) only
    ∙ c.window_of.ensures.cells x (subst (λ (e : Extent). holds e x ≡ true) far held)))
