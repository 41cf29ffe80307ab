use Rattle.sz_shelf.proofs.Effects.{loads-change}
use Rattle.sz_shelf.proofs.laws.loads_see_the_seal.Goals as goal

pub returns : goal.returns
returns c = loads-change
