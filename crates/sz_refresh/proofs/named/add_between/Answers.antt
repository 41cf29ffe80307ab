-- The run has just the indexes between the two.
use Rattle.std.proofs.Common.{refl, ◌∙◌}
use Rattle.sz_frame.proofs.Added.{own-at}
use Rattle.sz_refresh.proofs.Names.{between-run, between-empty}
use Rattle.sz_refresh.proofs.named.add_between.Goals as goal

pub returns-then-start-end : goal.returns-then-start-end
returns-then-start-end c =
    c.add_run.ensures ∙ between-run c.args.to.now c.args.start c.args.end c.if-start-end.true

pub returns-else-start-end : goal.returns-else-start-end
returns-else-start-end c =
    let to = c.args.to.now in
    between-empty to c.args.start c.args.end c.if-start-end.false (own-at to to.extent refl c.shape.ensures.rising)
