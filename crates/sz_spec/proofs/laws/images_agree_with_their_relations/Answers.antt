-- Each clause is a lemma of the definitions.
use Rattle.sz_spec.proofs.Images.{back-ext, forward-ext}
use Rattle.sz_spec.proofs.laws.images_agree_with_their_relations.Goals as goal

pub returns-clause-back : goal.returns-clause-back
returns-clause-back c = back-ext

pub returns-clause-forward : goal.returns-clause-forward
returns-clause-forward c = forward-ext
