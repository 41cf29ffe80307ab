-- Where the cell adds nothing, nothing changes: a bitmap's set is the set of its own cells.
use Rattle.std.proofs.Common.{sym, ◌∙◌}
use Rattle.sz_spec.specs.Lineage.{related}
use Rattle.sz_frame.proofs.Added.{traced-none, traced-not_in, traced-unrelated}
use Rattle.sz_frame.proofs.walks.trace_cell.Goals as goal

pub returns-else-has : goal.returns-else-has
returns-else-has g c =
    let relation = related (g.A.AtWork.site c.args.at.now).op (g.A.AtWork.inputs c.args.at.now) c.args.input in
    traced-none c.args.dir relation c.args.from.now c.args.to.now c.args.cell c.shape.ensures.rising
    (λ x. traced-not_in c.args.dir relation c.args.from.now c.args.cell x c.in-Back.is
    (sym c.has.ensures ∙ c.if-has.false))

pub returns-else-meets : goal.returns-else-meets
returns-else-meets g c =
    let relation = related (g.A.AtWork.site c.args.at.now).op (g.A.AtWork.inputs c.args.at.now) c.args.input in
    traced-none c.args.dir relation c.args.from.now c.args.to.now c.args.cell c.shape.ensures.rising
    (λ x. traced-unrelated c.args.dir relation c.args.from.now c.args.cell x c.in-Forward.is
    (sym c.meets.ensures ∙ c.if-meets.false))
