-- The payload of a cell by itself is the bytes of the set of the cell.
use Rattle.std.proofs.Common.{◌≡◌, ℕ, List, [], ◌∷◌, map, sym, ap, subst, ◌∙◌}
use Rattle.std.specs.Arc.{arc_value}
use Rattle.std.specs.Result.{IfOk}
use Rattle.sz_cells.specs.Cells.{named_in}
use Rattle.sz_cells.specs.Extent.{Extent, index_of}
use Rattle.sz_cells.specs.SetBytes.{set_bytes}
use Rattle.sz_spec.specs.Values.{input_at}
use Rattle.sz_spec.specs.Operators.Regions.{component_of}
use Rattle.sz_spec.specs.Payloads.{payload_of}
use Rattle.sz_ops_region.proofs.Labels.{alone-set, payload-high}
use Rattle.sz_ops_region.proofs.work.LabellingAtWork.payload.Goals as goal

pub returns-in_ok-set-in-Some-Alone : goal.returns-in_ok-set-in-Some-Alone
returns-in_ok-set-in-Some-Alone c =
    let w = c.args.self.now in
    let grids = map (λ a. arc_value a) w.inputs.now in
    let o = c.args.out in
    let high = sym c.in-Some-Alone.ensures.high in
    let only : (component_of w.t (input_at grids 0) o).indexes ≡ index_of w.at.now.out o ∷ [] =
    rw c.in-Some-Alone.field-0-is at c.in-Some-Alone.ensures.value in
    let is : set_bytes c.in_ok-set-in-Some-Alone.set ≡ payload_of w.at.now.op grids o =
    ap set_bytes (c.in_ok-set-in-Some-Alone.ensures ∙ ap (λ (e : Extent). named_in e (o ∷ [])) c.out.ensures.value
    ∙ alone-set w.at.now grids w.t o w.labels c.requires.right c.requires.out high only)
    ∙ sym (payload-high w.at.now.op grids w.t o w.labels high) in
    subst (λ (bytes : List ℕ). IfOk c.payload_of.result (λ p. arc_value p ≡ bytes)) is c.payload_of.ensures
