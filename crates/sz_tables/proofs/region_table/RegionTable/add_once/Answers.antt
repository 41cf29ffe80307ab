-- What was added last is there.
use Rattle.std.proofs.Common.{refl}
use Rattle.sz_frame.proofs.Added.{own-at}
use Rattle.sz_tables.specs.Scans.{far_sets}
use Rattle.sz_tables.proofs.Scanned.{known-there}
use Rattle.sz_tables.proofs.region_table.RegionTable.add_once.Goals as goal

pub returns-then-known-number : goal.returns-then-known-number
returns-then-known-number c =
    known-there (far_sets c.args.dir c.args.input c.args.self.now) c.args.number c.in-Some.known
    c.args.last c.args.to.now
    (own-at c.args.to.now c.args.to.now.extent refl c.shape.ensures.rising) c.requires.last c.in-Some.is
    c.if-known-number.true
