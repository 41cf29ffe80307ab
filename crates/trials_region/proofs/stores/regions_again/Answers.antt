-- What was read can be written.
use Rattle.sz_region.proofs.ReadShapes.{can-put-read}
use Rattle.trials_region.proofs.stores.regions_again.Goals as goal

pub put_regions-requires : goal.put_regions-requires
put_regions-requires c =
    rw c.deref.ensures.value (
      c.args.shape,
      c.args.ins.now,
      can-put-read c.args.shape c.args.ins.now c.args.bytes.now 1 _ _ c.requires c.in_ok-pairs.ensures.ok,
    )
