-- The list names the cells of the window, each of which is one of the shape.
use Rattle.std.proofs.Common.{◌≡◌, ◌||◌, true, List, ap, sym, subst, ◌∙◌}
use Rattle.std.specs.List.{list_any, All}
use Rattle.sz_cells.specs.declared.Cell.{Cell}
use Rattle.sz_cells.specs.Extent.{holds}
use Rattle.sz_cells.specs.Cells.{is_same, named_in}
use Rattle.sz_cells.proofs.Sets.{cells_where-ext}
use Rattle.sz_ops_local.specs.Windows.{is_in}
use Rattle.sz_ops_local.proofs.WindowCells.{all-named, window-held}
use Rattle.sz_ops_local.proofs.window.set.Goals.{In_ok-name_cells}
use Rattle.sz_ops_local.proofs.window.set.Goals as goal

named : (c : In_ok-name_cells) (x : Cell) → list_any (is_same x) c.name_cells.new.cells.items ≡ is_in c.args.window x
named c x = c.in_ok-name_cells.ensures x
    ∙ ap (λ (xs : List Cell). list_any (is_same x) xs || is_in c.args.window x) c.new-cells.ensures.items

pub from_cells-requires : goal.from_cells-requires
from_cells-requires c =
    let e = c.args.shape in
    let s = (goal.at.from_cells-requires c).In_ok-name_cells in
    record {
      held = subst (λ (xs : List Cell). All (λ x. holds e x ≡ true) xs) (sym c.deref.ensures.value)
          (all-named (holds e) c.name_cells.new.cells.items
          (λ x there. window-held e c.args.window x c.requires (sym (named s x) ∙ there)));
    }

pub returns : goal.returns
returns c =
    let e = c.args.shape in
    let s = (goal.at.returns c).In_ok-name_cells in
    c.in_ok-new.ensures.ok ∙ c.in_ok-set.ensures ∙ ap (named_in e) c.deref.ensures.value
    ∙ cells_where-ext e (λ x. list_any (is_same x) c.name_cells.new.cells.items) (is_in c.args.window)
    (λ x held. named s x)
