-- The key idea: there are as many rows as the count says.
use Rattle.std.proofs.Common.{length, sym, arith}
use Rattle.sz_tables.proofs.Rows.{rows-length}
use Rattle.sz_tables.proofs.region_table.RegionTable.len.Goals as goal

pub returns-clause-count : goal.returns-clause-count
returns-clause-count c =
    let t = c.self.inside in
    rw (← c.self.view_is) (sym (rows-length (length t.ins.items) t.count t.names.items))

pub returns-clause-few : goal.returns-clause-few
returns-clause-few c =
    let t = c.self.inside in
    rw (← c.self.view_is) (omega (arith, rows-length (length t.ins.items) t.count t.names.items))
