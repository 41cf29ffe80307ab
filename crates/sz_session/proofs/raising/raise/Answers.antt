-- A log of format 1 is given the group, and one of format 2 is left.
use Rattle.sz_recover.proofs.Ending.{made-logs-end}
use Rattle.sz_session.proofs.Raisings.{second-format, raised-one, raised-before, append-raises, raise-still}
use Rattle.sz_session.proofs.raising.raise.Goals as goal

pub returns-then-log-ne1-clause-raised : goal.returns-then-log-ne1-clause-raised
returns-then-log-ne1-clause-raised g c =
    let log = c.args.log.now in
    raised-before g.T.Station log.end.at log.format log.catalogue log.stores.items c.args.station.now
    (second-format log.format log.right c.if-log-ne1.true) c.requires.log c.requires.synced

pub returns-then-log-ne1-clause-stops : goal.returns-then-log-ne1-clause-stops
returns-then-log-ne1-clause-stops g c =
    let a = c.args.station.now in
    raise-still g.T.Station a (g.met.T.Station.only_now a) (g.met.T.Station.counts_now a)

pub append-requires-clause-log : goal.append-requires-clause-log
append-requires-clause-log g c =
    let log = c.args.log.now in
    made-logs-end (g.T.Station.disk c.args.station.now) log.end.at log.format log.catalogue log.stores.items
    c.requires.log

pub returns-in_err-append-clause-stops : goal.returns-in_err-append-clause-stops
returns-in_err-append-clause-stops g c =
    let log = c.args.log.now in
    append-raises g.T.Station log.end.at log.format log.catalogue log.stores.items c.args.station.now
    c.append.new.station c.if-log-ne1.false c.requires.log c.requires.synced c.append.ensures.stops

pub returns-clause-raised : goal.returns-clause-raised
returns-clause-raised g c =
    let log = c.args.log.now in
    raised-one g.T.Station log.end.at log.format c.in_ok-append.field-0.at log.catalogue log.stores.items
    c.args.station.now c.append.new.station c.if-log-ne1.false c.requires.log c.in_ok-append.ensures.added
    c.in_ok-append.ensures.end c.in_ok-append.ensures.synced

pub returns-clause-stops : goal.returns-clause-stops
returns-clause-stops g c =
    let log = c.args.log.now in
    append-raises g.T.Station log.end.at log.format log.catalogue log.stores.items c.args.station.now
    c.append.new.station c.if-log-ne1.false c.requires.log c.requires.synced c.append.ensures.stops
