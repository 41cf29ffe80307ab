-- Where the answer ends early, no view was asked yet, or some were, or all; and no more is counted than might be.
use Rattle.std.proofs.Common.{map, arith}
use Rattle.sz_query.specs.Views.{view_of}
use Rattle.sz_query.proofs.Asked.{none-asked, all-asked, most-asked, on-err}
use Rattle.sz_query.proofs.path.answer_with.Goals as goal

pub returns-in_err-sides-clause-tried : goal.returns-in_err-sides-clause-tried
returns-in_err-sides-clause-tried g c = on-err c.from_residual.result (none-asked (map view_of c.args.views.now))

pub returns-in_err-set-clause-tried : goal.returns-in_err-set-clause-tried
returns-in_err-set-clause-tried g c =
    on-err c.from_residual-in_err-set.result (none-asked (map view_of c.args.views.now))

pub returns-in_err-to_set-clause-tried : goal.returns-in_err-to_set-clause-tried
returns-in_err-to_set-clause-tried g c =
    on-err c.from_residual-in_err-to_set.result
    (all-asked (map view_of c.args.views.now) (map view_of c.take_steps.new.views) c.in_ok-used.ensures.asked)

pub add-requires : goal.add-requires
add-requires g c =
    omega (
      arith,
      c.requires.room,
      c.in_ok-used.ensures.ticks,
      c.new-count.ensures,
      most-asked (map view_of c.args.views.now) (map view_of c.take_steps.new.views) c.in_ok-used.ensures.asked,
    )
