-- The one cell is at the same place.
use Rattle.std.proofs.Common.{sym, ◌∙◌}
use Rattle.sz_cells.specs.Cells.{is_same}
use Rattle.sz_spec.specs.Lineage.{mapped}
use Rattle.sz_frame.proofs.Added.{with-ext}
use Rattle.sz_ops_local.proofs.Places.{mapped-at, same-at}
use Rattle.sz_ops_local.proofs.elementwise.back_into.Goals as goal

pub set-requires : goal.set-requires
set-requires c =
    let same = same-at c.args.at.now c.args.input c.requires.op c.shape_of_all.ensures.site c.requires.input in
    rw (c.requires.to, same) c.requires.out

pub returns : goal.returns
returns c =
    let s = c.args.at.now in
    let i = c.args.input in
    c.set.ensures
    ∙ with-ext c.args.to.now (λ x. is_same x c.args.out) (λ x. mapped s.op s.ins i c.args.out x)
    (λ x held. sym (mapped-at s i c.args.out x c.requires.op c.shape_of_all.ensures.site c.requires.input))
