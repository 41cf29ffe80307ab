use Rattle.sz_shelf.proofs.Effects.{counts-change}
use Rattle.sz_shelf.proofs.laws.counts_grow.Goals as goal

pub returns : goal.returns
returns c = counts-change
