-- A record has a field at each index below its length.
use Rattle.std.proofs.Common.{ap, sym, ◌∙◌}
use Rattle.csv.specs.Records.{fields_of}
use Rattle.csv.proofs.RecordFacts.{field-get, field-there}
use Rattle.sz_script.specs.Records.{value_in}
use Rattle.sz_script.proofs.records.value_at.Goals as goal

pub returns-in-Some : goal.returns-in-Some
returns-in-Some c =
    c.value_of.ensures
    ∙ ap value_in (sym (field-get (fields_of c.args.row.now) c.args.index c.in-Some.field.now
    (sym c.in-Some.ensures.value)))

pub returns-in-None : goal.returns-in-None
returns-in-None c =
    absurd (field-there (fields_of c.args.row.now) c.args.index c.requires (sym c.in-None.ensures.value))
