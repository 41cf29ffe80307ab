-- The law is a lemma of the definitions.
use Rattle.sz_refresh.proofs.Affected.{others-keep}
use Rattle.sz_refresh.proofs.laws.other_cells_keep_their_values.Goals as goal

pub returns : goal.returns
returns c = others-keep
