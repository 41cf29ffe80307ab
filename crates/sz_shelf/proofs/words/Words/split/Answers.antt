use Rattle.std.proofs.Common.{rules}
use Rattle.sz_shelf.proofs.Moves.{splits-keep}
use Rattle.sz_shelf.proofs.Slots.{table-is}
use Rattle.sz_shelf.proofs.words.Words.split.Goals as goal

pub split_seat-requires : goal.split_seat-requires
split_seat-requires c = (table-is c.requires.own c.self.view_is, search rules, splits-keep _ _ _ c.requires.idle.0)
