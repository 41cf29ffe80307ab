use Rattle.std.proofs.Common.{◌≡◌, subst, true, All}
use Rattle.sz_shelf.specs.Contents.{Contents}
use Rattle.sz_shelf.specs.Apart.{HasImages}
use Rattle.sz_shelf.proofs.Slots.{table-is, out-here, out-is}
use Rattle.sz_shelf.proofs.words.Words.place.Goals as goal

pub slot_mut-store-requires : goal.slot_mut-store-requires
slot_mut-store-requires c = (table-is c.requires.own c.self.view_is, out-here _ _ c.requires.out.1)

pub place-requires-clause-images : goal.place-requires-clause-images
place-requires-clause-images c =
    let is = out-is _ _ _ c.requires.out.1 c.slot_mut-store.ensures.value in
    subst (λ (x : Contents). c.args.images ≡ true
    → All (HasImages x.tag.site x.tag.inputs) c.args.lineage.now.regions)
    is c.requires.images
