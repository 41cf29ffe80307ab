-- The place with its row and column exchanged is one of the input.
use Rattle.std.proofs.Common.{Some, subst}
use Rattle.sz_cells.specs.Extent.{layer_of, row_in}
use Rattle.sz_spec.specs.declared.op.Op.TheVariants.{Transpose}
use Rattle.sz_spec.specs.Values.{extent_at}
use Rattle.sz_spec.specs.Lineage.{mapped}
use Rattle.sz_frame.specs.Single.{IsOnly}
use Rattle.sz_frame.proofs.Places.{is_at, found, not-found, only-by}
use Rattle.sz_ops_move.proofs.Windows.{transpose-back, transpose-mapped}
use Rattle.sz_ops_move.proofs.transpose.source.Goals as goal

pub unreachable-requires : goal.unreachable-requires
unreachable-requires c =
    let s = c.args.at.now in
    let o = c.args.out in
    let k = c.sides-shape.ensures in
    let told = rw (k.input, c.layer_of.ensures.value, c.row_in.ensures.value, k.out) at c.cell_in.ensures in
    not-found (extent_at s.ins 0) (layer_of s.out o) o.col (row_in s.out o) c.cell_in.result
    (transpose-back s o c.requires.op k.site.shape k.right k.made c.requires.out) told c.in-None.is

pub returns-clause-only : goal.returns-clause-only
returns-clause-only c =
    let s = c.args.at.now in
    let o = c.args.out in
    let k = c.sides-shape.ensures in
    let e = extent_at s.ins 0 in
    let told = rw (k.input, c.layer_of.ensures.value, c.row_in.ensures.value, k.out) at c.cell_in.ensures in
    let p = is_at e (layer_of s.out o) o.col (row_in s.out o) in
    only-by e p (mapped Transpose s.ins 0 o) (Some c.in-Some.cell)
    (λ x held. transpose-mapped s o x c.requires.op k.site.shape)
    (subst (IsOnly e p) c.in-Some.is
    (found e (layer_of s.out o) o.col (row_in s.out o) c.cell_in.result k.right told))
