-- The key idea: a table of sets without a set has all that is asked of one.
use Rattle.std.proofs.Common.{[]}
use Rattle.sz_tables.proofs.Rows.{sound-none, none-seen}
use Rattle.sz_tables.proofs.FirstCells.{pairs-none}
use Rattle.sz_tables.proofs.region_table.RegionTable.new.Goals as goal

pub invariant_of-result : goal.invariant_of-result
invariant_of-result c =
    rw (c.in_ok-new.ensures, c.in_ok-tables_for.ensures.tables, c.new-2.ensures.items)
    (sound-none c.args.out c.args.ins.now _, λ named. pairs-none c.args.ins.now [])

pub returns : goal.returns
returns c =
    rw (
      c.in_ok-new.ensures,
      c.in_ok-tables_for.ensures.tables,
      c.in_ok-tables_for.ensures.capacity,
      c.new-2.ensures.capacity,
    ) (none-seen c.args.out c.args.ins.now _)
