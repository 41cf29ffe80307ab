-- A list of another length has no two items.
use Rattle.std.proofs.Common.{◌≢◌, length, map, sym, arith}
use Rattle.serde_json.specs.View.{view}
use Rattle.std.proofs.lemmas.List.{length-map}
use Rattle.sz_script.proofs.FieldsRead.{not_two}
use Rattle.sz_script.proofs.fields.two_of.Goals as goal

pub returns-else-list-eq2 : goal.returns-else-list-eq2
returns-else-list-eq2 c =
    let other : length (map view c.in-Some.list.now) ≢ 2 = omega (arith, length-map c.in-Some.list.now view) in
    rw (← c.in-Some.ensures) (sym (not_two (map view c.in-Some.list.now) other))
