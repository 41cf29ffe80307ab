-- The array is made of the table of all records.
use Rattle.sz_script.specs.Records.{records_in}
use Rattle.sz_script.proofs.records.array_of.Goals as goal

pub returns-in-Ok : goal.returns-in-Ok
returns-in-Ok c = c.make_array.ensures (records_in c.args.text.now) c.in-Ok.ensures

pub returns-in-Err : goal.returns-in-Err
returns-in-Err c = c.in-Err.ensures
