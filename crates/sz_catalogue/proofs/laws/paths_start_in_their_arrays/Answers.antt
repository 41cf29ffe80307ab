-- Each clause is a lemma of the definitions.
use Rattle.sz_catalogue.proofs.PathStarts.{paths-start}
use Rattle.sz_catalogue.proofs.laws.paths_start_in_their_arrays.Goals as goal

pub returns : goal.returns
returns c = paths-start
