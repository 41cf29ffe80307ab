-- A field that is no value ends the walk; after the last field all of them were taken.
use Rattle.std.proofs.Common.{◌∙◌, sym, arith}
use Rattle.csv.specs.Records.{fields_of}
use Rattle.sz_script.proofs.Tables.{taken_none, taken_more, taken_bad, taken_passed, taken_given}
use Rattle.sz_script.proofs.records.push_fields.Goals as goal

pub loop-index-init : goal.loop-index-init
loop-index-init c = taken_none (fields_of c.args.row.now) c.args.cells.now.items c.requires

pub loop-index-preserved : goal.loop-index-preserved
loop-index-preserved c =
    taken_more (fields_of c.args.row.now) c.loop-index.index c.args.cells.now.items c.loop-index.cells.items _
    c.in-Some.value (omega arith) c.in-Some.ensures c.in_ok-push_first.ensures c.loop-index.invariant

pub returns-in_default-clause-tested : goal.returns-in_default-clause-tested
returns-in_default-clause-tested c =
    sym (taken_bad (fields_of c.args.row.now) c.loop-index.index (omega arith)
    (sym c.in_default.is ∙ c.value_at.ensures))

pub returns-clause-tested : goal.returns-clause-tested
returns-clause-tested c =
    sym (taken_passed (fields_of c.args.row.now) c.loop-index.index c.args.cells.now.items c.loop-index.cells.items
    (omega arith) c.loop-index.invariant)

pub returns-clause-pushed : goal.returns-clause-pushed
returns-clause-pushed c _ =
    taken_given (fields_of c.args.row.now) c.loop-index.index c.args.cells.now.items c.loop-index.cells.items
    (omega arith) c.loop-index.invariant
