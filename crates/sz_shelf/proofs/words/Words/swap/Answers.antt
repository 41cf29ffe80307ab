use Rattle.sz_shelf.proofs.Slots.{table-is, out-here}
use Rattle.sz_shelf.proofs.words.Words.swap.Goals as goal

pub slot_mut-old-requires : goal.slot_mut-old-requires
slot_mut-old-requires c = (table-is c.requires.own c.self.view_is, out-here _ _ c.requires.out.1)
