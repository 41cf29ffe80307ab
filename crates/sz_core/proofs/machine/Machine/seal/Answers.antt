-- A seal keeps the shapes of the shelves, so the asks can go on.
use Rattle.sz_core.proofs.Going.{ready-changed, seal-shapes}
use Rattle.sz_core.specs.Events.{after_seal}
use Rattle.sz_core.proofs.machine.Machine.seal.Goals as goal

pub invariant_of-self : goal.invariant_of-self
invariant_of-self c = rw c.seal_on.ensures.after
    (ready-changed c.self.inside.shelves.items c.self.inside.asks.items c.args.shelf after_seal seal-shapes
    c.self.invariant)
