-- The key idea: runs that rise with gaps are those of rising indexes.
use Rattle.std.proofs.Common.{◌<◌, length, arith}
use Rattle.std.proofs.lemmas.List.{length-map}
use Rattle.sz_tables.specs.Tables.{SetsByNumber}
use Rattle.sz_tables.proofs.Longest.{set-of_runs}
use Rattle.sz_tables.proofs.Taking.{read-extent, read-sets}
use Rattle.sz_tables.proofs.region_table.RegionTable.in_runs.Goals as goal

pub returns-clause-set : goal.returns-clause-set
returns-clause-set c =
    let ts = c.self.inside.ins.items in
    let t = c.index.result.now in
    let i = c.args.input in
    let inside : i < length ts =
    omega (arith, rw (← c.self.view_is, length-map ts (λ (s : SetsByNumber). s.extent)) at c.requires.input) in
    rw (← c.self.view_is)
    (rw (read-extent ts i t inside c.index.ensures, read-sets ts i t inside c.index.ensures)
    (set-of_runs t.extent _ _ c.runs.ensures.extent c.runs.ensures.runs c.runs.ensures.longest))
