-- The one cell is added where its payload stands for an asked cell.
use Rattle.std.proofs.Common.{refl, sym, ap, ◌∙◌}
use Rattle.sz_cells.specs.Extent.{Extent, cell_of}
use Rattle.sz_cells.specs.Cells.{any_cell}
use Rattle.sz_spec.specs.Payloads.{mapped_by_payload}
use Rattle.sz_frame.proofs.Added.{own-at}
use Rattle.sz_payload.proofs.Adding.{cell-met, cell-unmet}
use Rattle.sz_payload.proofs.look.Look.add_met_cell.Goals as goal

pub returns-then-meets : goal.returns-then-meets
returns-then-meets c =
    let s = c.args.self.now.at.now in
    c.set.ensures
    ∙ cell-met c.args.to.now s.out c.cell_at-cell.result c.args.index
    (λ o. any_cell (mapped_by_payload s.op s.ins c.args.payload.now c.args.input o) c.args.from.now) c.requires.to
    (c.cell_at-cell.ensures.value ∙ ap (λ (e : Extent). cell_of e c.args.index) c.out.ensures.value)
    (sym c.meets.ensures ∙ c.if-meets.true)

pub returns-else-meets : goal.returns-else-meets
returns-else-meets c =
    let s = c.args.self.now.at.now in
    let to = c.args.to.now in
    cell-unmet to s.out c.cell_at-cell.result c.args.index
    (λ o. any_cell (mapped_by_payload s.op s.ins c.args.payload.now c.args.input o) c.args.from.now) c.requires.to
    (c.cell_at-cell.ensures.value ∙ ap (λ (e : Extent). cell_of e c.args.index) c.out.ensures.value)
    (sym c.meets.ensures ∙ c.if-meets.false) (own-at to to.extent refl c.shape.ensures.rising)
