use Rattle.std.proofs.Common.{rules}
use Rattle.sz_shelf.proofs.Moves.{counts-keep}
use Rattle.sz_shelf.proofs.Slots.{table-is}
use Rattle.sz_shelf.proofs.words.Words.count.Goals as goal

pub store-requires : goal.store-requires
store-requires c = let g = c.requires.grown in (
  table-is c.requires.own c.self.view_is,
  search rules,
  counts-keep _ _ _ _ _ g.0 g.1 c.requires.turn c.requires.unsealed g.2 g.3,
)
