use Rattle.sz_shelf.proofs.Slots.{table-is, out-here}
use Rattle.sz_shelf.proofs.words.Words.share.Goals as goal

pub slot_mut-store-requires : goal.slot_mut-store-requires
slot_mut-store-requires c = (table-is c.requires.own c.self.view_is, out-here _ _ c.requires.out.1)
