-- The key idea: a set of the table begins no later than the latest of them.
use Rattle.std.proofs.Common.{◌<◌, arith, ltb-true}
use Rattle.sz_tables.specs.Tables.{first_of, spans_from}
use Rattle.sz_tables.proofs.Numbered.{behind-all}
use Rattle.sz_tables.proofs.set_table.SetTable.begins_behind.Goals as goal

pub returns : goal.returns
returns c true n =
    let s = c.self.inside in
    let later = ltb-true s.latest c.first_of.result true in
    let behind : s.latest < first_of c.args.runs.now = omega (arith, c.first_of.ensures, later) in
    rw (← c.self.view_is)
    (behind-all s.shape s.runs.items c.args.runs.now (spans_from 0 s.ends.items) s.index s.latest n c.self.invariant.0
    (rw (← c.self.view_is) at c.requires.longest) c.self.invariant.4 behind)
