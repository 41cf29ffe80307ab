-- Each clause is a lemma of the definitions.
use Rattle.sz_spec.proofs.Images.{back-has, forward-has, back-there_is, forward-there_is}
use Rattle.sz_spec.proofs.laws.images_are_the_related_cells.Goals as goal

pub returns-clause-back : goal.returns-clause-back
returns-clause-back c = back-has

pub returns-clause-forward : goal.returns-clause-forward
returns-clause-forward c = forward-has

pub returns-clause-back_there_is : goal.returns-clause-back_there_is
returns-clause-back_there_is c = back-there_is

pub returns-clause-forward_there_is : goal.returns-clause-forward_there_is
returns-clause-forward_there_is c = forward-there_is
