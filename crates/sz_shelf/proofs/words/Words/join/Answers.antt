use Rattle.std.proofs.Common.{rules}
use Rattle.sz_shelf.proofs.Moves.{joins-keep}
use Rattle.sz_shelf.proofs.Slots.{table-is}
use Rattle.sz_shelf.proofs.words.Words.join.Goals as goal

pub join_seat-requires : goal.join_seat-requires
join_seat-requires c = (
  table-is c.requires.kept.0 c.self.view_is,
  table-is c.requires.spent.0 c.self.view_is,
  c.requires.spent.1.1,
  search rules,
  joins-keep _ _ _ _ _ c.requires.kept.1.0 c.requires.spent.1.0,
)
