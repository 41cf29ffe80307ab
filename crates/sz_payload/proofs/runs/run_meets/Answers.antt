-- The least asked index at or after the run's first tells whether the run has one.
use Rattle.std.proofs.Common.{sym, ◌∙◌}
use Rattle.sz_cells.specs.Extent.{size_of}
use Rattle.sz_tables.proofs.MetRuns.{next-in, none-in}
use Rattle.sz_payload.proofs.runs.run_meets.Goals as goal

pub returns-in-Some : goal.returns-in-Some
returns-in-Some c = record {
  met = next-in c.args.run c.in-Some.index 0 (size_of c.args.from.now.extent) c.args.from.now.indexes
      c.shape.ensures.rising (sym c.next_after.ensures ∙ c.in-Some.is);
}

pub returns-in-None : goal.returns-in-None
returns-in-None c = record {
  met = none-in c.args.run c.args.from.now.indexes (sym c.next_after.ensures ∙ c.in-None.is);
}
