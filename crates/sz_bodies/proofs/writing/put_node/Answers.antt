-- The list stands behind what was there, and the stores behind the list.
use Rattle.std.proofs.Common.{◌≡◌, List, ◌++◌, subst}
use Rattle.sz_spec.specs.declared.modes.Strategy.{Strategy}
use Rattle.sz_bodies.specs.Bodies.{list_bytes}
use Rattle.sz_bodies.proofs.NodesPut.{no-stores}
use Rattle.sz_bodies.proofs.writing.put_node.Goals as goal

pub returns-in-None-clause-node : goal.returns-in-None-clause-node
returns-in-None-clause-node c s fits rest =
    rw c.in-None.is
    (no-stores c.args.format s c.args.list.now c.args.to.now.items c.put_list.new.to.items rest
    (subst (λ (xs : List Strategy). c.put_list.new.to.items ≡ c.args.to.now.items ++ list_bytes xs) c.as_slice.ensures
    c.in_ok-put_list.ensures.bytes)
    (rw c.in-None.is at fits))
