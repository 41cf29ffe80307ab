-- Whether the near set has an asked cell decides.
use Rattle.std.proofs.Common.{refl, sym, ◌∙◌}
use Rattle.sz_frame.proofs.Added.{own-at}
use Rattle.sz_tables.proofs.Scanned.{row-met, row-unmet, added-there}
use Rattle.sz_cells.specs.Cells.{has}
use Rattle.sz_tables.specs.Rows.{set_at}
use Rattle.sz_tables.specs.Scans.{far_sets}
use Rattle.sz_tables.proofs.region_table.RegionTable.take_row.Goals as goal

pub returns-then-tested-clause-to : goal.returns-then-tested-clause-to
returns-then-tested-clause-to c =
    row-met c.args.dir c.args.self.now c.args.input c.args.row c.near_number-near.result c.far_number-far.result
    c.args.from.now c.args.to.now c.add_once.new.to c.len.ensures.named c.requires.row c.requires.input
    c.near_number-near.ensures.value c.far_number-far.ensures.value
    (sym c.tested-tested.ensures.meets ∙ c.if-tested.true) c.add_once.ensures

pub returns-then-tested-clause-seen : goal.returns-then-tested-clause-seen
returns-then-tested-clause-seen c = record {
  tested = rw c.tested-tested.ensures.number c.tested-tested.ensures.meets;
  added =
      added-there c.args.to.now c.add_once.new.to (has (set_at (far_sets c.args.dir c.args.input c.args.self.now)
      c.far_number-far.result)) c.add_once.ensures;
}

pub returns-else-tested-clause-to : goal.returns-else-tested-clause-to
returns-else-tested-clause-to c =
    row-unmet c.args.dir c.args.self.now c.args.input c.args.row c.near_number-near.result c.args.from.now
    c.args.to.now c.len.ensures.named c.requires.row c.requires.input c.near_number-near.ensures.value
    (sym c.tested-tested.ensures.meets ∙ c.if-tested.false)
    (own-at c.args.to.now c.args.to.now.extent refl c.shape.ensures.rising)
