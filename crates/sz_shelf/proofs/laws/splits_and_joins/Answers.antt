use Rattle.sz_shelf.proofs.Effects.{splits-change, joins-change}
use Rattle.sz_shelf.proofs.laws.splits_and_joins.Goals as goal

pub returns-clause-splits : goal.returns-clause-splits
returns-clause-splits c = splits-change

pub returns-clause-joins : goal.returns-clause-joins
returns-clause-joins c = joins-change
