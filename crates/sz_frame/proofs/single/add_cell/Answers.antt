-- No cell adds nothing.
use Rattle.std.proofs.Common.{refl}
use Rattle.sz_frame.proofs.Added.{with-none, own-at}
use Rattle.sz_frame.specs.Single.{is_cell}
use Rattle.sz_frame.proofs.single.add_cell.Goals as goal

pub returns-in_default : goal.returns-in_default
returns-in_default c =
    let to = c.args.to.now in
    with-none to (is_cell c.args.cell) (own-at to to.extent refl c.shape.ensures.rising)
    (λ x held. rw c.in_default.is refl)
