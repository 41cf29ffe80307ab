-- A number is an i64.
use Rattle.std.proofs.Common.{FitsSigned, w64, subst, sym, rules, ap, ◌∙◌}
use Rattle.std.proofs.lemmas.Int.{to_z-of_z}
use Rattle.serde_json.specs.Data.{number}
use Rattle.serde_json.specs.Find.{of_integer}
use Rattle.sz_script.specs.Layers.{is_value}
use Rattle.sz_writing.specs.Written.{IsWritten, value_long}
use Rattle.sz_writing.proofs.Texts.{number-written}
use Rattle.sz_writing.proofs.cells.value_of.Goals as goal

pub returns-in-Some-clause-written : goal.returns-in-Some-clause-written
returns-in-Some-clause-written c = let fits : FitsSigned w64 c.in-Some.number = search rules in
    subst (IsWritten is_value 0 value_long)
    (sym (c.from.ensures ∙ ap (λ z. number (of_integer z)) (to_z-of_z w64 c.in-Some.number fits)))
    (number-written c.in-Some.number fits)
