-- The one cell that is there is the one that the payload stands for.
use Rattle.std.proofs.Common.{◌∙◌}
use Rattle.sz_spec.specs.Values.{extent_at}
use Rattle.sz_spec.specs.Payloads.{mapped_by_payload}
use Rattle.sz_frame.proofs.Added.{own-at}
use Rattle.sz_frame.proofs.OneCell.{any-only}
use Rattle.sz_payload.proofs.lookup.meets.Goals as goal

pub returns : goal.returns
returns c =
    let s = c.args.at.now in
    let e = extent_at s.ins c.args.input in
    c.has_cell.ensures
    ∙ any-only c.args.from.now e (λ x. mapped_by_payload s.op s.ins c.args.payload.now c.args.input c.args.out x)
    c.cell_of.result (own-at c.args.from.now e c.requires.from c.shape.ensures.rising)
    (c.cell_of.ensures.only c.requires.payload)
