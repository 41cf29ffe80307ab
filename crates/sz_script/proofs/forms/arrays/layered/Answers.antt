-- What refuses the cells refuses the line, since its name is right.
use Rattle.std.proofs.Common.{map, ◌&&◌, Bool, true, ap, ◌∙◌, sym}
use Rattle.serde_json.specs.View.{view}
use Rattle.sz_script.specs.Layers.{grid_of, array_in}
use Rattle.sz_script.specs.Forms.Layers.{with_layers}
use Rattle.sz_script.specs.declared.command.Command.TheVariants as command
use Rattle.sz_script.proofs.LayersRead.{reads_fault, drafted, found, array_refused}
use Rattle.sz_script.proofs.forms.arrays.layered.Goals as goal

pub returns-in-Err : goal.returns-in-Err
returns-in-Err c =
    let name = c.in_ok-name.name.now in
    let layers = map view c.in_ok-cells.cells.now in
    reads_fault (array_in layers) _ c.in-Err.fault c.in-Err.ensures
    (λ r e. drafted with_layers name layers _ _
    (found (λ s. s.now) _ _ _ c.in_ok-name.ensures.ok_part c.text_at.ensures)
    (found (λ s. map view s.now) _ _ _ c.in_ok-cells.ensures.ok_part c.list_at.ensures)
    ∙ array_refused layers (command.Layers name (grid_of layers)) r
    (ap (λ (b : Bool). b && true) (sym c.is_name.ensures ∙ c.if-not-is_name.false)) e)
