-- The list names the cells of the line.
use Rattle.std.proofs.Common.{◌≡◌, ◌||◌, ◌&&◌, List, refl, ap, ◌∙◌}
use Rattle.std.specs.List.{list_any}
use Rattle.sz_cells.specs.declared.Cell.{Cell}
use Rattle.sz_cells.specs.Extent.{holds}
use Rattle.sz_cells.specs.Cells.{is_same, named_in}
use Rattle.sz_cells.proofs.Sets.{cells_where-ext}
use Rattle.sz_ops_move.specs.Moving.{is_in_line}
use Rattle.sz_ops_move.proofs.fold_layers.set_of_line.Goals as goal

pub returns : goal.returns
returns c =
    let e = c.args.shape in
    let line = is_in_line e c.args.place in
    let cells = c.name_line.new.cells.items in
    let named : (x : Cell) → list_any (is_same x) cells ≡ (holds e x && line x) =
    λ x. c.in_ok-name_line.ensures x
    ∙ ap (λ (xs : List Cell). list_any (is_same x) xs || (holds e x && line x)) c.new-cells.ensures.items in
    c.in_ok-new.ensures.ok ∙ c.in_ok-set.ensures ∙ ap (named_in e) c.deref.ensures.value
    ∙ cells_where-ext e (λ x. list_any (is_same x) cells) line (λ x held. named x ∙ (rw held refl))
