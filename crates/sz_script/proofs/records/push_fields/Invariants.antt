-- What is kept so far is the first of what was kept and the fields so far, each of which is a value.
use Rattle.csv.specs.Records.{fields_of}
use Rattle.sz_script.proofs.Tables.{IsTakenUpTo}
use Rattle.sz_script.proofs.records.push_fields.Given as goal

abbrev pub invariant-loop-index : goal.invariant-loop-index
invariant-loop-index l = IsTakenUpTo (fields_of l.row) l.index l.fn.cells.items l.cells.items
