-- Over another input than the first there is no default.
use Rattle.std.proofs.Common.{refl}
use Rattle.sz_spec.specs.Lineage.{mapped}
use Rattle.sz_frame.proofs.Added.{own-at, with-none}
use Rattle.sz_payload.proofs.Operators.{no-default}
use Rattle.sz_payload.proofs.table.default_back.Goals as goal

pub returns-else-input-eq0 : goal.returns-else-input-eq0
returns-else-input-eq0 c =
    let s = c.args.at.now in
    let to = c.args.to.now in
    with-none to (λ x. mapped s.op s.ins c.args.input c.args.out x) (own-at to to.extent refl c.shape.ensures.rising)
    (λ x held. no-default s.op s.ins c.args.input c.args.out x c.requires.op c.if-input-eq0.false)
