use Rattle.sz_shelf.proofs.Effects.{gives-change}
use Rattle.sz_shelf.proofs.laws.gives_bring_the_store_back.Goals as goal

pub returns : goal.returns
returns c = gives-change
