-- Empty groups lead nowhere.
use Rattle.sz_core.proofs.Groups.{lead-none}
use Rattle.sz_core.proofs.index.Index.new.Goals as goal

pub invariant_of-result : goal.invariant_of-result
invariant_of-result c = rw c.loop-key.invariant (lead-none c.in_ok-found.found.extent c.loop-key._key)
