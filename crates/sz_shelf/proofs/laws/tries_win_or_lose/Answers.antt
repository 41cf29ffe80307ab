use Rattle.sz_shelf.proofs.Effects.{tries-change}
use Rattle.sz_shelf.proofs.laws.tries_win_or_lose.Goals as goal

pub returns : goal.returns
returns c = tries-change
