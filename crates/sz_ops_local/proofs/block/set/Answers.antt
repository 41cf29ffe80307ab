-- The cells of the window are those to which the output cell is mapped.
use Rattle.std.proofs.Common.{◌≡◌, ℕ, length, sym, ap, subst, ◌∙◌, arith}
use Rattle.std.specs.Arc.{arc_value}
use Rattle.sz_cells.specs.Extent.{Extent}
use Rattle.std.specs.Prelude.{IfOk}
use Rattle.sz_cells.specs.Cells.{Cells, cells_where}
use Rattle.sz_cells.proofs.Sets.{cells_where-ext}
use Rattle.sz_spec.specs.declared.op.Op.TheVariants.{Block}
use Rattle.sz_spec.specs.Values.{extent_at}
use Rattle.sz_spec.specs.Lineage.{mapped}
use Rattle.sz_ops_local.specs.Windows.{is_in, IsWindow}
use Rattle.sz_frame.proofs.Inputs.{shape-is}
use Rattle.sz_ops_local.proofs.Blocks.{block-input}
use Rattle.sz_ops_local.proofs.block.set.Goals.{After-index-ins-0}
use Rattle.sz_ops_local.proofs.block.set.Goals as goal

one : (c : After-index-ins-0) → length c.args.at.now.ins ≡ 1
one c = rw c.requires.op at c.ins.ensures.arity

first : (c : After-index-ins-0) → c.index-ins-0.result ≡ extent_at c.args.at.now.ins 0
first c =
    shape-is c.args.at.now.ins 0 c.index-ins-0.result (omega (arith, one c))
    (rw c.ins.ensures.value at c.index-ins-0.is)

pub set-requires : goal.set-requires
set-requires c =
    subst (λ (e : Extent). IsWindow e c.window_of.result) (sym (first (goal.at.set-requires c).After-index-ins-0))
    c.window_of.ensures.window

pub returns : goal.returns
returns c =
    let a = c.args in
    let ins = a.at.now.ins in
    let s = (goal.at.returns c).After-index-ins-0 in
    let p = is_in c.window_of.result in
    let set : ℕ → Cells = λ i. cells_where (extent_at ins i) (mapped (Block a.how a.h a.w) ins i a.out) in
    subst (λ (s : Cells). IfOk c.set.result (λ r. arc_value r ≡ s))
    (ap (λ (e : Extent). cells_where e p) (first s)
    ∙ cells_where-ext (extent_at ins 0) p (mapped (Block a.how a.h a.w) ins 0 a.out)
    (λ x held. sym (c.window_of.ensures.cells x held))
    ∙ ap set (sym (block-input ins a.input (one s) c.requires.input)))
    c.set.ensures
