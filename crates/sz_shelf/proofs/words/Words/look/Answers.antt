use Rattle.std.proofs.Common.{rules}
use Rattle.sz_shelf.proofs.Moves.{loads-keep}
use Rattle.sz_shelf.proofs.Slots.{table-is}
use Rattle.sz_shelf.proofs.words.Words.look.Goals as goal

pub load-requires : goal.load-requires
load-requires c = (table-is c.requires.own c.self.view_is, search rules, loads-keep _ _ _ _ c.requires.idle.0)
