-- One entry more, and at the end all of them.
use Rattle.std.proofs.Common.{List, refl, ap, ◌∙◌, arith}
use Rattle.std.proofs.lemmas.List.{take_all}
use Rattle.sz_cells.specs.Cells.{Cells, with_those}
use Rattle.sz_frame.specs.Parts.{Entry}
use Rattle.sz_frame.proofs.Added.{own-at}
use Rattle.sz_tables.specs.Entries.{entries}
use Rattle.sz_payload.specs.Looks.{entries_add}
use Rattle.sz_payload.proofs.Adding.{entries-none, entries-next}
use Rattle.sz_payload.proofs.look.Look.entries_forward.Goals as goal

pub loop-row-init : goal.loop-row-init
loop-row-init c =
    let to = c.args.to.now in
    record {
      all = c.len-row-end.ensures.entries;
      added = entries-none c.args.self.now.at.now c.args.input c.args.from.now to (entries c.args.self.now.table.now)
          (own-at to to.extent refl c.shape.ensures.rising);
      tested = tt;
    }

pub row_forward-last-requires-clause-to : goal.row_forward-last-requires-clause-to
row_forward-last-requires-clause-to c =
    ap (λ (s : Cells). s.extent) c.loop-row.invariant.added ∙ c.requires.to

pub loop-row-preserved : goal.loop-row-preserved
loop-row-preserved c =
    let inv = c.loop-row.invariant in
    record {
      all = inv.all;
      added = entries-next c.args.self.now.at.now c.args.input c.args.from.now c.args.to.now c.loop-row.to
          c.row_forward-last.new.to (entries c.args.self.now.table.now) c.loop-row.row
          (omega (arith, inv.all, c.loop-row-test.true)) inv.added c.row_forward-last.ensures.to;
      tested = c.row_forward-last.ensures.tested;
    }

pub returns : goal.returns
returns c =
    let es = entries c.args.self.now.table.now in
    c.loop-row.invariant.added
    ∙ ap (λ (xs : List Entry). with_those c.args.to.now (entries_add c.args.self.now.at.now c.args.input c.args.from.now
    xs)) (take_all c.loop-row.row es (omega (arith, c.loop-row.invariant.all)))
