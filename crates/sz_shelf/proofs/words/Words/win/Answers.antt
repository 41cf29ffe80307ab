use Rattle.std.proofs.Common.{rules}
use Rattle.sz_shelf.proofs.Moves.{tries-keep}
use Rattle.sz_shelf.proofs.Slots.{table-is}
use Rattle.sz_shelf.proofs.words.Words.win.Goals as goal

pub compare_exchange-requires : goal.compare_exchange-requires
compare_exchange-requires c =
    (table-is c.requires.own c.self.view_is, search rules, tries-keep _ _ _ _ c.requires.idle.0)
