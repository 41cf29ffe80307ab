use Rattle.sz_shelf.proofs.Effects.{releases-change}
use Rattle.sz_shelf.proofs.laws.releases_end_the_turn.Goals as goal

pub returns : goal.returns
returns c = releases-change
