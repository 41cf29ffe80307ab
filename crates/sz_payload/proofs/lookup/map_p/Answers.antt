-- The one cell that is there is the one that the payload stands for.
use Rattle.std.proofs.Common.{◌∙◌}
use Rattle.sz_spec.specs.Values.{extent_at}
use Rattle.sz_spec.specs.Payloads.{mapped_by_payload}
use Rattle.sz_frame.proofs.OneCell.{adds-only}
use Rattle.sz_payload.proofs.lookup.map_p.Goals as goal

pub returns-clause-added : goal.returns-clause-added
returns-clause-added c = λ lawful.
    let s = c.args.at.now in
    c.add_cell.ensures
    ∙ adds-only c.args.to.now (extent_at s.ins c.args.input)
    (λ x. mapped_by_payload s.op s.ins c.args.payload.now c.args.input c.args.out x) c.cell_of.result c.requires.to
    (c.cell_of.ensures.only lawful)
