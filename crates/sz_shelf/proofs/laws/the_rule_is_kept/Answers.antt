use Rattle.sz_shelf.proofs.Reading.{rules-hold}
use Rattle.sz_shelf.proofs.laws.the_rule_is_kept.Goals as goal

pub returns-clause-rule : goal.returns-clause-rule
returns-clause-rule c = λ key s kept. rules-hold kept
