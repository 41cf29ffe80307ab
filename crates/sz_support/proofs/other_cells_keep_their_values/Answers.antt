-- Each clause is a lemma of the definitions.
use Rattle.sz_support.proofs.SuspectSets.{suspects-led, others-keep, suspects-images}
use Rattle.sz_support.proofs.other_cells_keep_their_values.Goals as goal

pub returns-clause-values : goal.returns-clause-values
returns-clause-values c = others-keep

pub returns-clause-paths : goal.returns-clause-paths
returns-clause-paths c = suspects-led

pub returns-clause-images : goal.returns-clause-images
returns-clause-images c = suspects-images
