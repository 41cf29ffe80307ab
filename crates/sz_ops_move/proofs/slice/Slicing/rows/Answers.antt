-- The cells of a row of the output lie in a row of the input.
use Rattle.std.proofs.Common.{◌≡◌, ◌+◌, List, Option, None, get_or, length, map, ap, ◌∙◌, arith}
use Rattle.std.specs.Prelude.{ℤ}
use Rattle.std.specs.Arc.{arc_value}
use Rattle.sz_cells.specs.Extent.{Extent, index_of, size_of}
use Rattle.sz_spec.specs.Values.{Grid, extent_at, input_at}
use Rattle.sz_ops_move.proofs.Copied.{start_of, sliced-within, sliced-next}
use Rattle.sz_ops_move.proofs.slice.Slicing.rows.Goals as goal

pub part-requires-clause-within : goal.part-requires-clause-within
part-requires-clause-within c =
    let self = c.args.self.now in
    let s = self.at.now in
    let e = extent_at s.ins 0 in
    let k = c.sides-shape.ensures in
    let row = c.loop-row.row in
    let start : c.source.result ≡ start_of s self.r0 self.c0 row = c.source.ensures.value in
    let from : c.index-from.result ≡ index_of e (start_of s self.r0 self.c0 row) =
    c.index-from.ensures.value ∙ ap (λ (d : Extent). index_of d c.source.result) k.input
    ∙ ap (index_of e) start in
    let cols : c.made.inside.cols ≡ s.out.cols = ap (λ (d : Extent). d.cols) (c.made.view_is ∙ k.out) in
    let size : length c.cells-cells.result.now ≡ size_of e =
    c.cells-cells.ensures.count ∙ ap size_of c.input_of.ensures.shape in
    omega (
      arith,
      sliced-within s self.r0 self.c0 self.h self.w row self.kind k.site.shape (rw start at c.source.ensures.held),
      from,
      cols,
      size,
    )

pub loop-row-preserved : goal.loop-row-preserved
loop-row-preserved c =
    let self = c.args.self.now in
    let s = self.at.now in
    let e = extent_at s.ins 0 in
    let grids = map (λ a. arc_value a) c.args.inputs.now in
    let k = c.sides-shape.ensures in
    let row = c.loop-row.row in
    let from : c.index-from.result ≡ index_of e (start_of s self.r0 self.c0 row) =
    c.index-from.ensures.value ∙ ap (λ (d : Extent). index_of d c.source.result) k.input
    ∙ ap (index_of e) c.source.ensures.value in
    let cols : c.made.inside.cols ≡ s.out.cols = ap (λ (d : Extent). d.cols) (c.made.view_is ∙ k.out) in
    let values : c.cells-cells.result.now ≡ (input_at grids 0).values =
    c.cells-cells.ensures.values ∙ ap (λ (g : Grid). g.values) c.input_of.ensures.value in
    c.in_ok-extend_from_slice.ensures.items
    ∙ sliced-next s grids self.r0 self.c0 self.h self.w row c.index-from.result c.loop-row.rows.items c.part.result.now
    self.kind c.requires from (c.part.ensures.long ∙ cols)
    (λ n low. c.part.ensures.each n (omega (arith, low, cols))
    ∙ ap (λ (xs : List (Option ℤ)). get_or xs (c.index-from.result + n) None) values) c.loop-row.invariant
