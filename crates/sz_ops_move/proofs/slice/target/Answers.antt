-- A cell left of the window or above it has no place, and any other's is that of the output if it has it.
use Rattle.std.proofs.Common.{◌≡◌, ℕ, ◌-◌, ◌≤◌, ap, ◌∙◌, arith}
use Rattle.sz_cells.specs.Extent.{layer_of, row_in}
use Rattle.sz_spec.specs.declared.op.Op.TheVariants.{Slice}
use Rattle.sz_spec.specs.Values.{extent_at}
use Rattle.sz_spec.specs.Lineage.{mapped}
use Rattle.sz_frame.proofs.Places.{is_at, found, only-by}
use Rattle.sz_ops_move.proofs.Windows.{slice-mapped_on}
use Rattle.sz_ops_move.proofs.slice.target.Goals as goal

pub returns-clause-only : goal.returns-clause-only
returns-clause-only c =
    let s = c.args.at.now in
    let a = c.args in
    let x = c.args.cell in
    let e = extent_at s.ins 0 in
    let k = c.sides-shape.ensures in
    let told = rw (c.layer_of.ensures.value, k.input, k.out) at c.cell_in.ensures in
    let here : c.row_in.result ≡ row_in e x = rw k.input at c.row_in.ensures.value in
    let low : a.r0 ≤ row_in e x = omega (arith, here, c.in_ok-row.ensures.0) in
    let left : a.c0 ≤ x.col = c.in_ok-col.ensures.0 in
    let row : c.in_ok-row.row ≡ row_in e x - a.r0 = c.in_ok-row.ensures.1 ∙ ap (λ (n : ℕ). n - a.r0) here in
    let col : c.in_ok-col.col ≡ x.col - a.c0 = c.in_ok-col.ensures.1 in
    let p = is_at s.out (layer_of e x) (row_in e x - a.r0) (x.col - a.c0) in
    only-by s.out p (λ o. mapped (Slice a.r0 a.c0 a.h a.w) s.ins 0 o x) c.cell_in.result
    (λ o held. slice-mapped_on s a.r0 a.c0 a.h a.w o x c.requires.op k.site.shape low left)
    (found s.out (layer_of e x) (row_in e x - a.r0) (x.col - a.c0) c.cell_in.result k.made (rw (row, col) at told))
