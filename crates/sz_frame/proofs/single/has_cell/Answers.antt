-- The set is the set of its own cells.
use Rattle.std.proofs.Common.{refl, sym, ap, ◌∙◌, None}
use Rattle.sz_cells.specs.Cells.{any_cell}
use Rattle.sz_frame.proofs.Added.{own-at}
use Rattle.sz_frame.specs.Single.{is_cell}
use Rattle.sz_frame.proofs.Passing.{met-none}
use Rattle.sz_frame.proofs.OneCell.{has-one}
use Rattle.sz_frame.proofs.single.has_cell.Goals as goal

pub returns-in-Some : goal.returns-in-Some
returns-in-Some c =
    let from = c.args.from.now in
    c.has.ensures ∙ has-one from c.in-Some.cell (own-at from from.extent refl c.shape.ensures.rising)
    ∙ ap (λ o. any_cell (is_cell o) from) (sym c.in-Some.is)

pub returns-in-None : goal.returns-in-None
returns-in-None c =
    let from = c.args.from.now in
    sym (ap (λ o. any_cell (is_cell o) from) c.in-None.is ∙ met-none from (is_cell None) (λ x. refl))
