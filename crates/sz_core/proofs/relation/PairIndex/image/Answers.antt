-- The index of the direction and the input has the pairs of that input, so its image is the image under what they
-- say.
use Rattle.std.proofs.Common.{◌<◌, length}
use Rattle.sz_spec.specs.declared.modes.Dir.TheVariants.{Back, Forward}
use Rattle.sz_core.proofs.Relations.{index-image}
use Rattle.sz_core.proofs.relation.PairIndex.image.Goals as goal
use Rattle.sz_core.specs.contracts.relation.PairIndex.{the_view}

pub returns-in-Back-clause-ok : goal.returns-in-Back-clause-ok
returns-in-Back-clause-ok c =
    let r = the_view c.self.inside in
    let within : c.args.input < length r.ins = rw (← c.self.view_is) at c.requires.input in
    let image = index-image Back r c.self.inside.back.items c.args.input c.index_mut.result.now c.args.from.now
    c.self.invariant.0 within c.index_mut.ensures.value
    (rw (c.in-Back.is, ← c.self.view_is) at c.requires.shape) in
    rw (c.in-Back.is, ← c.self.view_is, ← image) c.image.ensures.ok

pub returns-in-Forward-clause-ok : goal.returns-in-Forward-clause-ok
returns-in-Forward-clause-ok c =
    let r = the_view c.self.inside in
    let within : c.args.input < length r.ins = rw (← c.self.view_is) at c.requires.input in
    let image = index-image Forward r c.self.inside.forward.items c.args.input c.index_mut-in-Forward.result.now
    c.args.from.now c.self.invariant.1 within
    c.index_mut-in-Forward.ensures.value (rw (c.in-Forward.is, ← c.self.view_is) at c.requires.shape) in
    rw (c.in-Forward.is, ← c.self.view_is, ← image) c.image-in-Forward.ensures.ok
