-- The items of a list are its values, seen.
use Rattle.std.proofs.Common.{ap, ◌∙◌, sym, map, Some, List}
use Rattle.serde_json.specs.View.{view}
use Rattle.serde_json.specs.declared.value.Value.{Value}
use Rattle.sz_script.proofs.FieldsRead.{list_seen}
use Rattle.sz_script.proofs.fields.list_of.Goals as goal

pub returns-in-Some : goal.returns-in-Some
returns-in-Some c = ap (λ (l : List Value). Some (map view l)) c.as_slice.ensures.value
    ∙ sym (list_seen _ c.in-Some.items.now.items (sym c.in-Some.ensures))
