use Rattle.std.proofs.Common.{rules, ap}
use Rattle.sz_shelf.specs.Rule.{Own}
use Rattle.sz_shelf.proofs.Moves.{takes-keep}
use Rattle.sz_shelf.proofs.Slots.{table-is}
use Rattle.sz_shelf.proofs.words.Words.take.Goals as goal

pub load-requires : goal.load-requires
load-requires c = (
  table-is c.requires.own c.self.view_is,
  search rules,
  takes-keep _ _ _ _ (ap (λ (m : Own). m.0.stage) c.requires.won.1),
)
