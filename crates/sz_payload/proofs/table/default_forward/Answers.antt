-- The cell of the first input is that of the output, and over another input there is no default.
use Rattle.std.proofs.Common.{refl, sym, ◌∙◌}
use Rattle.sz_cells.specs.Cells.{is_same}
use Rattle.sz_spec.specs.Lineage.{mapped}
use Rattle.sz_frame.proofs.Added.{own-at, with-none, with-ext}
use Rattle.sz_payload.proofs.Operators.{no-default, own-default}
use Rattle.sz_payload.proofs.table.default_forward.Goals as goal

pub returns-then-input-eq0 : goal.returns-then-input-eq0
returns-then-input-eq0 c =
    let s = c.args.at.now in
    c.set.ensures
    ∙ with-ext c.args.to.now (λ o. is_same o c.args.cell) (λ o. mapped s.op s.ins c.args.input o c.args.cell)
    (λ o held. sym (own-default s.op s.ins c.args.input o c.args.cell c.requires.op c.if-input-eq0.true))

pub returns-else-input-eq0 : goal.returns-else-input-eq0
returns-else-input-eq0 c =
    let s = c.args.at.now in
    let to = c.args.to.now in
    with-none to (λ o. mapped s.op s.ins c.args.input o c.args.cell) (own-at to to.extent refl c.shape.ensures.rising)
    (λ o held. no-default s.op s.ins c.args.input o c.args.cell c.requires.op c.if-input-eq0.false)
