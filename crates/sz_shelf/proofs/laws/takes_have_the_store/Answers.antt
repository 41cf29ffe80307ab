use Rattle.sz_shelf.proofs.Effects.{takes-change}
use Rattle.sz_shelf.proofs.laws.takes_have_the_store.Goals as goal

pub returns : goal.returns
returns c = takes-change
