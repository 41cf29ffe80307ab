-- The place with its row and column exchanged is one of the output.
use Rattle.std.proofs.Common.{Some, subst}
use Rattle.sz_cells.specs.Extent.{layer_of, row_in}
use Rattle.sz_spec.specs.declared.op.Op.TheVariants.{Transpose}
use Rattle.sz_spec.specs.Values.{extent_at}
use Rattle.sz_spec.specs.Lineage.{mapped}
use Rattle.sz_frame.specs.Single.{IsOnly}
use Rattle.sz_frame.proofs.Places.{is_at, found, not-found, only-by}
use Rattle.sz_ops_move.proofs.Windows.{transpose-on, transpose-mapped_on}
use Rattle.sz_ops_move.proofs.transpose.target.Goals as goal

pub unreachable-requires : goal.unreachable-requires
unreachable-requires c =
    let s = c.args.at.now in
    let x = c.args.cell in
    let e = extent_at s.ins 0 in
    let k = c.sides-shape.ensures in
    let told = rw (c.layer_of.ensures.value, c.row_in.ensures.value, k.input, k.out) at c.cell_in.ensures in
    not-found s.out (layer_of e x) x.col (row_in e x) c.cell_in.result
    (transpose-on s x c.requires.op k.site.shape k.right c.requires.cell) told c.in-None.is

pub returns-clause-only : goal.returns-clause-only
returns-clause-only c =
    let s = c.args.at.now in
    let x = c.args.cell in
    let e = extent_at s.ins 0 in
    let k = c.sides-shape.ensures in
    let told = rw (c.layer_of.ensures.value, c.row_in.ensures.value, k.input, k.out) at c.cell_in.ensures in
    let p = is_at s.out (layer_of e x) x.col (row_in e x) in
    only-by s.out p (λ o. mapped Transpose s.ins 0 o x) (Some c.in-Some.cell)
    (λ o held. transpose-mapped_on s o x c.requires.op k.site.shape)
    (subst (IsOnly s.out p) c.in-Some.is
    (found s.out (layer_of e x) x.col (row_in e x) c.cell_in.result k.made told))
