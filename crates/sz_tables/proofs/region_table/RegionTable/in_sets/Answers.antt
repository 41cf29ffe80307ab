-- The key idea: a table has one table of sets for each input, so that of a table of one input is the first.
use Rattle.std.proofs.Common.{◌<◌, length, sym, arith}
use Rattle.std.proofs.lemmas.List.{length-map}
use Rattle.sz_tables.specs.Tables.{SetsByNumber}
use Rattle.sz_tables.proofs.Taking.{read-extent, read-sets}
use Rattle.sz_tables.proofs.region_table.RegionTable.in_sets.Goals as goal

pub index-requires : goal.index-requires
index-requires c =
    let ts = c.self.inside.ins.items in
    omega (arith, rw (← c.self.view_is, length-map ts (λ (s : SetsByNumber). s.extent)) at c.requires)

pub returns-clause-extent : goal.returns-clause-extent
returns-clause-extent c =
    let ts = c.self.inside.ins.items in
    let inside : 0 < length ts =
    omega (arith, rw (← c.self.view_is, length-map ts (λ (s : SetsByNumber). s.extent)) at c.requires) in
    rw (← c.self.view_is) (sym (read-extent ts 0 c.index.result.now inside c.index.ensures))

pub returns-clause-sets : goal.returns-clause-sets
returns-clause-sets c =
    let ts = c.self.inside.ins.items in
    let inside : 0 < length ts =
    omega (arith, rw (← c.self.view_is, length-map ts (λ (s : SetsByNumber). s.extent)) at c.requires) in
    rw (← c.self.view_is) (sym (read-sets ts 0 c.index.result.now inside c.index.ensures))
