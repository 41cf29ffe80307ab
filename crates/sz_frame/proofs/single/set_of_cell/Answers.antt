-- The list of the cell, or of none, names exactly it.
use Rattle.std.proofs.Common.{sym, ap, ◌∙◌}
use Rattle.sz_cells.specs.Cells.{cells_where}
use Rattle.sz_frame.specs.Single.{is_cell}
use Rattle.sz_frame.proofs.OneCell.{named-one}
use Rattle.sz_frame.proofs.single.set_of_cell.Goals.{in-Some+in_ok-set-in-Some}
use Rattle.sz_frame.proofs.single.set_of_cell.Goals.{in-None+in_ok-set-in-None}
use Rattle.sz_frame.proofs.single.set_of_cell.Goals as goal

pub returns : goal.returns
returns c =
    let e = c.args.shape in
    c.in_ok-new.ensures.ok
    ∙ elim c.match-cell.branch [
      | in-Some+in_ok-set-in-Some w ↦
          w.set-is ∙ w.in_ok-set-in-Some.ensures ∙ named-one e w.in-Some.cell
          ∙ ap (λ o. cells_where e (is_cell o)) (sym w.in-Some.is)
      | in-None+in_ok-set-in-None w ↦
          w.set-is ∙ w.in_ok-set-in-None.ensures ∙ ap (λ o. cells_where e (is_cell o)) (sym w.in-None.is)
    ]
