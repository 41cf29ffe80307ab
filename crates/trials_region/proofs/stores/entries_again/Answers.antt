-- What was read can be written.
use Rattle.sz_region.proofs.ReadShapes.{can-put-entries}
use Rattle.trials_region.proofs.stores.entries_again.Goals as goal

pub put_entries-requires : goal.put_entries-requires
put_entries-requires c =
    rw c.deref.ensures.value
    (c.args.shape, can-put-entries c.args.shape c.args.bytes.now 1 _ _ c.in_ok-entries.ensures.ok)
