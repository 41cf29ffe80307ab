-- What refuses the cells refuses the line, since its name is right.
use Rattle.std.proofs.Common.{◌≡◌, [], ◌∷◌, map, ◌&&◌, Bool, true, List, Err, subst, ap, ◌∙◌, sym}
use Rattle.serde_json.specs.View.{view}
use Rattle.serde_json.specs.Data.{Data}
use Rattle.sz_script.specs.Reading.{Reads}
use Rattle.sz_script.specs.Layers.{grid_of, array_in}
use Rattle.sz_script.specs.Forms.Array.{with_one_layer}
use Rattle.sz_script.specs.declared.command.Command.TheVariants as command
use Rattle.sz_script.proofs.LayersRead.{reads_fault, drafted, found, array_refused}
use Rattle.sz_script.proofs.forms.arrays.array.Goals as goal

pub returns-in-Err : goal.returns-in-Err
returns-in-Err c =
    let name = c.in_ok-name.name.now in
    let one : map view c.from_ref.result.now ≡ view c.in_ok-rows.rows.now ∷ [] =
    ap (map view) c.from_ref.ensures.value in
    let layers = view c.in_ok-rows.rows.now ∷ [] in
    let P : List Data → Type 0 = λ ds. Reads (array_in ds) (Err c.in-Err.fault) in
    reads_fault (array_in layers) _ c.in-Err.fault (subst P one c.in-Err.ensures)
    (λ r e. drafted with_one_layer name layers _ _
    (found (λ s. s.now) _ _ _ c.in_ok-name.ensures.ok_part c.text_at.ensures)
    (found (λ v. view v.now ∷ []) _ _ _ c.in_ok-rows.ensures.ok_part c.list_field.ensures)
    ∙ array_refused layers (command.Array name (grid_of layers)) r
    (ap (λ (b : Bool). b && true) (sym c.is_name.ensures ∙ c.if-not-is_name.false)) e)
