-- Each clause is a lemma of the definitions.
use Rattle.sz_support.proofs.MatterExtremes.{least-matter, least-of_layers_matter}
use Rattle.sz_support.proofs.MatterExtremes.{greatest-matter, greatest-of_layers_matter}
use Rattle.sz_support.proofs.cells_of_extremes_matter.Goals as goal

pub returns-clause-least : goal.returns-clause-least
returns-clause-least c = least-matter

pub returns-clause-least_layers : goal.returns-clause-least_layers
returns-clause-least_layers c = least-of_layers_matter

pub returns-clause-greatest : goal.returns-clause-greatest
returns-clause-greatest c = greatest-matter

pub returns-clause-greatest_layers : goal.returns-clause-greatest_layers
returns-clause-greatest_layers c = greatest-of_layers_matter
