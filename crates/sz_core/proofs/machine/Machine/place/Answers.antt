-- A place keeps the shapes of the shelves, so the asks can go on.
use Rattle.sz_core.proofs.Going.{either-way, ready-changed, place-shapes}
use Rattle.sz_core.specs.Events.{after_place}
use Rattle.sz_core.proofs.machine.Machine.place.Goals as goal

pub invariant_of-self : goal.invariant_of-self
invariant_of-self c =
    either-way c.place_on.result c.place_on.ensures.after c.place_on.ensures.err
    (λ placed. rw placed (ready-changed c.self.inside.shelves.items c.self.inside.asks.items c.args.shelf
    (after_place c.args.piece) (place-shapes c.args.piece) c.self.invariant))
    (λ same. rw same c.self.invariant)
