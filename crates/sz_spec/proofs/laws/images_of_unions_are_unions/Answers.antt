-- Each clause is a lemma of the definitions.
use Rattle.sz_spec.proofs.Images.{back-union, forward-union}
use Rattle.sz_spec.proofs.laws.images_of_unions_are_unions.Goals as goal

pub returns-clause-back : goal.returns-clause-back
returns-clause-back c = back-union

pub returns-clause-forward : goal.returns-clause-forward
returns-clause-forward c = forward-union
