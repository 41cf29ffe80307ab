-- The value has each of the fields so far.
use Rattle.std.proofs.Common.{◌≡◌, take, true, is_some}
use Rattle.std.specs.List.{list_all}
use Rattle.serde_json.specs.Find.{get}
use Rattle.serde_json.specs.View.{view}
use Rattle.sz_script.proofs.fields.has_fields.Given as goal

abbrev pub invariant-loop-name : goal.invariant-loop-name
invariant-loop-name l = list_all (λ n. is_some (get n.now (view l.value))) (take l.name-index l.names) ≡ true
