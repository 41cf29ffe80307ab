-- All pieces of a sealed shelf are placed, so the pairs that a look takes say what all pairs say.
use Rattle.sz_core.proofs.Placing.{taken-image}
use Rattle.sz_core.proofs.shelf.IndexedShelf.image.Goals as goal
use Rattle.sz_core.specs.contracts.shelf.IndexedShelf.{the_view}

pub returns-clause-ok : goal.returns-clause-ok
returns-clause-ok c = rw (
  ← c.self.view_is,
  taken-image (the_view c.self.inside) c.args.dir c.args.input c.args.from.now c.self.invariant.2,
)
    c.image.ensures.ok
