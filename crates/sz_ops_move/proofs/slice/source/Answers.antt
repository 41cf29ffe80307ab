-- The window is within the input, so its places are.
use Rattle.std.proofs.Common.{◌≡◌, ◌+◌, ◌<◌, Some, subst, arith}
use Rattle.sz_cells.specs.Extent.{layer_of, row_in, height_of}
use Rattle.sz_spec.specs.declared.op.Op.TheVariants.{Slice}
use Rattle.sz_spec.specs.Values.{extent_at}
use Rattle.sz_spec.specs.Lineage.{mapped}
use Rattle.sz_frame.specs.Single.{IsOnly}
use Rattle.sz_frame.proofs.Places.{is_at, found, not-found, only-by, place-from, are-small}
use Rattle.sz_ops_move.proofs.Windows.{slice-back, slice-mapped}
use Rattle.sz_ops_move.proofs.slice.source.Goals.{After-sides-shape}
use Rattle.sz_ops_move.proofs.slice.source.Goals as goal

back : (c : After-sides-shape)
    → (layer_of c.args.at.now.out c.args.out < (extent_at c.args.at.now.ins 0).layers)
    × (c.args.r0 + row_in c.args.at.now.out c.args.out < height_of (extent_at c.args.at.now.ins 0))
    × (c.args.c0 + c.args.out.col < (extent_at c.args.at.now.ins 0).cols)
back c =
    let a = c.args in
    let k = c.sides-shape.ensures in
    slice-back a.at.now a.r0 a.c0 a.h a.w a.out c.requires.op k.site.shape k.right k.made c.requires.out

pub overflow_add-r0 : goal.overflow_add-r0
overflow_add-r0 c =
    let k = c.sides-shape.ensures in
    let row : c.row_in.result ≡ row_in c.args.at.now.out c.args.out = rw k.out at c.row_in.ensures.value in
    omega (
      arith,
      (back (goal.at.overflow_add-r0 c).After-sides-shape).1,
      row,
      (are-small (extent_at c.args.at.now.ins 0) k.right).height,
    )

pub overflow_add-c0 : goal.overflow_add-c0
overflow_add-c0 c =
    omega (
      arith,
      (back (goal.at.overflow_add-c0 c).After-sides-shape).2,
      (are-small (extent_at c.args.at.now.ins 0) c.sides-shape.ensures.right).cols,
    )

pub unreachable-requires : goal.unreachable-requires
unreachable-requires c =
    let s = c.args.at.now in
    let a = c.args in
    let k = c.sides-shape.ensures in
    let e = extent_at s.ins 0 in
    let within = back (goal.at.unreachable-requires c).After-sides-shape in
    let told = rw (k.input, c.layer_of.ensures.value, c.row_in.ensures.value, k.out) at c.cell_in.ensures in
    not-found e (layer_of s.out a.out) (a.r0 + row_in s.out a.out) (a.c0 + a.out.col) c.cell_in.result
    (place-from e (layer_of s.out a.out) (a.r0 + row_in s.out a.out) (a.c0 + a.out.col) within.0 within.1 within.2) told
    c.in-None.is

pub returns-clause-only : goal.returns-clause-only
returns-clause-only c =
    let s = c.args.at.now in
    let a = c.args in
    let k = c.sides-shape.ensures in
    let e = extent_at s.ins 0 in
    let told = rw (k.input, c.layer_of.ensures.value, c.row_in.ensures.value, k.out) at c.cell_in.ensures in
    let p = is_at e (layer_of s.out a.out) (a.r0 + row_in s.out a.out) (a.c0 + a.out.col) in
    only-by e p (mapped (Slice a.r0 a.c0 a.h a.w) s.ins 0 a.out) (Some c.in-Some.cell)
    (λ x held. slice-mapped s a.r0 a.c0 a.h a.w a.out x c.requires.op k.site.shape)
    (subst (IsOnly e p) c.in-Some.is
    (found e (layer_of s.out a.out) (a.r0 + row_in s.out a.out) (a.c0 + a.out.col) c.cell_in.result k.right told))
