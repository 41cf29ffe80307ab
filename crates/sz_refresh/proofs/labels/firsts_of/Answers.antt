-- They are added to no cell.
use Rattle.std.proofs.Common.{ap, ◌∙◌}
use Rattle.sz_cells.specs.Cells.{Cells, any_cell, no_cells, with_those}
use Rattle.sz_frame.specs.Single.{is_cell}
use Rattle.sz_refresh.specs.Names.{first_of}
use Rattle.sz_refresh.proofs.labels.firsts_of.Goals as goal

pub returns : goal.returns
returns c =
    c.add_each.ensures
    ∙ ap (λ (set : Cells). with_those set
    (λ o. any_cell (λ x. is_cell (first_of c.args.labels.now x) o) c.args.from.now))
    (c.in_ok-firsts.ensures ∙ ap no_cells c.shape.ensures)
