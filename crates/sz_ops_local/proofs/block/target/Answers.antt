-- The numbers of the block are a place of the output.
use Rattle.std.proofs.Common.{◌≡◌, ◌/◌, true, Some, sym, subst, ◌∙◌}
use Rattle.std.specs.Prelude.{Option, IfSome}
use Rattle.sz_cells.specs.declared.Cell.{Cell}
use Rattle.sz_cells.specs.Extent.{Extent, holds, layer_of, row_in}
use Rattle.sz_spec.specs.declared.op.Op.TheVariants.{Block}
use Rattle.sz_spec.specs.Lineage.{mapped}
use Rattle.sz_frame.specs.Single.{IsOnly}
use Rattle.sz_frame.proofs.Places.{is_at, found, found-held, not-found, only-by}
use Rattle.sz_ops_local.proofs.Blocks.{block-at, block-place}
use Rattle.sz_ops_local.proofs.block.target.Goals.{After-cell_in}
use Rattle.sz_ops_local.proofs.block.target.Goals as goal

pub unreachable-requires : goal.unreachable-requires
unreachable-requires c =
    let a = c.args in
    let k = c.shapes-shape.ensures in
    let e = c.shapes-shape.result.0 in
    let out = c.shapes-shape.result.1 in
    let inside : holds e a.cell ≡ true =
    subst (λ (d : Extent). holds d a.cell ≡ true) (sym k.input) c.requires.cell in
    let told = rw (c.layer_of.ensures.value, c.row_in.ensures.value) at c.cell_in.ensures in
    not-found out (layer_of e a.cell) (row_in e a.cell / a.h) (a.cell.col / a.w) c.cell_in.result
    (block-place e out a.h a.w a.cell k.blocked inside) told c.in-None.is

-- what was found at that place, if something was
there : (c : After-cell_in) → IfSome c.cell_in.result (λ x. holds c.shapes-shape.result.1 x ≡ true)
there c =
    let e = c.shapes-shape.result.0 in
    let x = c.args.cell in
    let told = rw (c.layer_of.ensures.value, c.row_in.ensures.value) at c.cell_in.ensures in
    found-held c.shapes-shape.result.1 (layer_of e x) (row_in e x / c.args.h) (x.col / c.args.w) c.cell_in.result
    c.shapes-shape.ensures.blocked.made told

pub returns-clause-held : goal.returns-clause-held
returns-clause-held c =
    subst (λ (d : Extent). holds d c.in-Some.cell ≡ true) c.shapes-shape.ensures.out
    (subst (λ (o : Option Cell). IfSome o (λ x. holds c.shapes-shape.result.1 x ≡ true)) c.in-Some.is
    (there (goal.at.returns-clause-held c).After-cell_in))

pub returns-clause-only : goal.returns-clause-only
returns-clause-only c =
    let a = c.args in
    let k = c.shapes-shape.ensures in
    let e = c.shapes-shape.result.0 in
    let out = c.shapes-shape.result.1 in
    let told = rw (c.layer_of.ensures.value, c.row_in.ensures.value) at c.cell_in.ensures in
    let p = is_at out (layer_of e a.cell) (row_in e a.cell / a.h) (a.cell.col / a.w) in
    let q = λ (o : Cell). mapped (Block a.how a.h a.w) a.at.now.ins 0 o a.cell in
    subst (λ (d : Extent). IsOnly d q (Some c.in-Some.cell)) k.out
    (only-by out p q (Some c.in-Some.cell) (λ o held. k.relation o a.cell ∙ block-at e out a.how a.h a.w o a.cell)
    (subst (IsOnly out p) c.in-Some.is
    (found out (layer_of e a.cell) (row_in e a.cell / a.h) (a.cell.col / a.w) c.cell_in.result k.blocked.made told)))
