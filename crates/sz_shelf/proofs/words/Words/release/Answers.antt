use Rattle.std.proofs.Common.{rules, ap}
use Rattle.sz_shelf.specs.Rule.{Own}
use Rattle.sz_shelf.proofs.Moves.{releases-keep}
use Rattle.sz_shelf.proofs.Slots.{table-is}
use Rattle.sz_shelf.proofs.words.Words.release.Goals as goal

pub store-requires : goal.store-requires
store-requires c = (
  table-is c.requires.own c.self.view_is,
  search rules,
  releases-keep _ _ _ _ (ap (λ (m : Own). m.0.stage) c.requires.turn.1),
)
