-- A reading is a chain of tests: each result comes exactly where its test holds and none before it.
use Rattle.sz_script.proofs.LawsLines.{too_long, no_json, no_form, bad_name, bad_cells, too_many_cells, bad_flow}
use Rattle.sz_script.proofs.LawsLines.{read, no_other}
use Rattle.sz_script.proofs.laws.refusals_are_exact.Goals as goal

pub returns : goal.returns
returns c = record {
  too_long = too_long;
  no_json = no_json;
  no_form = no_form;
  bad_name = bad_name;
  bad_cells = bad_cells;
  too_many_cells = too_many_cells;
  bad_flow = bad_flow;
  read = read;
  no_other = no_other;
}
