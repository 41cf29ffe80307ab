-- What nothing refuses has a new number, as many base arrays as the flow takes, and room.
use Rattle.std.proofs.Common.{◌≡◌, ap, ◌∙◌, arith}
use Rattle.sz_catalogue.specs.Holdings.{next_number, version_numbered}
use Rattle.sz_catalogue.proofs.Bases.{bases-length}
use Rattle.sz_catalogue.proofs.Counts.{start-known, start-count, start-room}
use Rattle.sz_catalogue.proofs.Numbers.{next-is_new}
use Rattle.sz_catalogue.proofs.Order.{none-is, started-flow, started-bases}
use Rattle.sz_catalogue.proofs.catalogue.Catalogue.start.Goals as goal

pub add-requires-clause-new : goal.add-requires-clause-new
add-requires-clause-new c =
    let number : c.next_number-number.result ≡ next_number c.args.self.now =
    c.next_number-number.ensures ∙ ap next_number c.self.view_is in
    ap (version_numbered c.args.self.now) number
    ∙ next-is_new c.args.self.now.versions (next_number c.args.self.now) (omega arith)

pub add-requires-clause-count : goal.add-requires-clause-count
add-requires-clause-count c =
    let known = start-known c.args.self.now c.args.name c.args.base.now c.requires.judged in
    rw c.in_ok-version.ensures.started
    (bases-length c.args.self.now c.args.base.now known.arrays
    ∙ start-count c.args.self.now c.args.name c.args.base.now known)

pub add-requires-clause-room : goal.add-requires-clause-room
add-requires-clause-room c =
    let known = start-known c.args.self.now c.args.name c.args.base.now c.requires.judged in
    rw c.in_ok-version.ensures.started (start-room c.args.self.now c.args.name c.args.base.now known)

pub add-requires-clause-flow : goal.add-requires-clause-flow
add-requires-clause-flow c =
    let known = start-known c.args.self.now c.args.name c.args.base.now c.requires.judged in
    rw c.in_ok-version.ensures.started (started-flow c.args.self.now c.args.name known.flow)

pub add-requires-clause-base : goal.add-requires-clause-base
add-requires-clause-base c = rw c.in_ok-version.ensures.started (started-bases c.args.self.now c.args.base.now)

pub add-requires-clause-fits : goal.add-requires-clause-fits
add-requires-clause-fits c =
    let known = start-known c.args.self.now c.args.name c.args.base.now c.requires.judged in
    rw c.in_ok-version.ensures.started (none-is _ known.fits)
