use Rattle.std.proofs.Common.{rules}
use Rattle.sz_shelf.proofs.Moves.{gives-keep}
use Rattle.sz_shelf.proofs.Slots.{table-is}
use Rattle.sz_shelf.proofs.words.Words.give.Goals as goal

pub load-requires : goal.load-requires
load-requires c =
    (table-is c.requires.own c.self.view_is, search rules, gives-keep _ _ _ _ c.requires.seen c.requires.turn)
