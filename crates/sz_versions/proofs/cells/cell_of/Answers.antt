-- A cell that is named is one of the shape, and the shape holds it.
use Rattle.std.proofs.Common.{sym, ap, ◌∙◌}
use Rattle.sz_cells.specs.Extent.{holds, cell_in}
use Rattle.sz_cells.proofs.Shapes.{place-has_cell}
use Rattle.sz_versions.proofs.Kept.{told-cell}
use Rattle.sz_versions.proofs.cells.cell_of.Goals as goal

pub returns-clause-held : goal.returns-clause-held
returns-clause-held c =
    let e = c.args.shape in
    let a = c.args in
    ap (holds e) (sym (told-cell _ (cell_in e a.layer a.row a.col) c.in-Some.cell _ c.cell_in.ensures c.requires
    c.in-Some.is))
    ∙ (place-has_cell e a.layer a.row a.col c.a_shape_is_within_limits.ensures c.requires).0
