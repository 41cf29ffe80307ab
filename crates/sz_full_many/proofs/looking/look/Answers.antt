-- Where no cell is asked, nothing is added.
use Rattle.std.proofs.Common.{refl}
use Rattle.sz_frame.proofs.Added.{own-at}
use Rattle.sz_full_many.proofs.Looked.{nothing-asked}
use Rattle.sz_full_many.proofs.looking.look.Goals as goal

pub returns-in-None : goal.returns-in-None
returns-in-None c =
    let from = c.args.from.now in
    nothing-asked c.args.dir c.args.input from c.args.to.now c.args.table.now c.bounds_of_bits.result
    (own-at from from.extent refl c.shape-2.ensures.rising)
    (own-at c.args.to.now c.args.to.now.extent refl c.shape.ensures.rising) c.requires.to c.in-None.is
    c.bounds_of_bits.ensures
