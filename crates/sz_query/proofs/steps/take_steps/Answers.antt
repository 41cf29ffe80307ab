-- The walk takes the step of the index.
use Rattle.std.proofs.Common.{List, ◌+◌, ◌<◌, length, map, get_or, drop, set, ap, sym, ◌∙◌, arith, inr}
use Rattle.std.specs.List.{AllZip}
use Rattle.std.proofs.lemmas.List.{length-map, length-set, drop-set-lt, drop-drop}
use Rattle.sz_cells.specs.Cells.{Cells}
use Rattle.sz_query.specs.Turns.{MayBeAsked}
use Rattle.sz_query.specs.Views.{view_of}
use Rattle.sz_query.proofs.Asked.{none-asked, on-err}
use Rattle.sz_query.proofs.OnWay.{steps-inputs, sides-length, tried-at, on-next}
use Rattle.sz_query.proofs.steps.take_steps.Given as given
use Rattle.sz_query.proofs.steps.take_steps.Goals.{After-step_into}
use Rattle.sz_query.proofs.steps.take_steps.Goals as goal

pub bounds-sides-index : goal.bounds-sides-index
bounds-sides-index g c =
    let views = map view_of c.args.views.now in
    let inputs = c.args.inputs.now in
    let same = steps-inputs c.args.dir views inputs c.args.set.now.extent c.requires.steps in
    omega (
      arith,
      same,
      sides-length c.args.dir views inputs same,
      ap (λ (xs : List Cells). length xs) c.requires.sides,
      c.loop-index.auto.sides,
      length-map c.args.views.now view_of,
      c.loop-index-test.true,
      c.loop-index.invariant.0,
    )

pub returns-in_err-used-clause-tried : goal.returns-in_err-used-clause-tried
returns-in_err-used-clause-tried g c = on-err c.from_residual.result (none-asked (map view_of c.args.views.now))

-- where the step of the index fails, or what it tells finds no room, the views up to its own may have been asked
tried : (g : given.Over) (c : After-step_into g) → AllZip MayBeAsked (map view_of c.args.views.now)
    (map view_of (set c.loop-index.views c.loop-index.index c.step_into.new.self))
tried g c =
    let way = c.loop-index.invariant.1 in
    let lt : c.loop-index.index < length c.loop-index.views =
    omega (arith, c.loop-index-test.true, c.loop-index.invariant.0) in
    let here = get_or c.loop-index.views c.loop-index.index in
    tried-at c.loop-index.index c.args.views.now c.loop-index.views (here c.index-views-index.result)
    c.step_into.new.self lt way.asked.same (ap here c.index-views-index.is) (inr c.step_into.ensures.asked)
    way.asked.asked way.asked.rest

pub returns-in_err-how-clause-tried : goal.returns-in_err-how-clause-tried
returns-in_err-how-clause-tried g c =
    on-err c.from_residual-in_err-how.result (tried g (goal.at.returns-in_err-how-clause-tried g c).After-step_into)

pub returns-in_err-push-clause-tried : goal.returns-in_err-push-clause-tried
returns-in_err-push-clause-tried g c =
    on-err c.from_residual-in_err-push.result (tried g (goal.at.returns-in_err-push-clause-tried g c).After-step_into)

pub loop-index-preserved : goal.loop-index-preserved
loop-index-preserved g c =
    let olds = c.args.views.now in
    let numbers = c.args.inputs.now in
    let k = c.loop-index.index in
    let nows = c.loop-index.views in
    let sides = c.loop-index.sides in
    let w = c.step_into.new.self in
    let here = get_or nows k in
    let lt : k < length nows = omega (arith, c.loop-index-test.true, c.loop-index.invariant.0) in
    let few : k < length numbers = omega (
      arith,
      c.loop-index-test.true,
      steps-inputs c.args.dir (map view_of olds) numbers c.args.set.now.extent c.requires.steps,
      length-map olds view_of,
    ) in
    let used_up = drop-set-lt (k + 1) sides k c.swap.new.y (omega arith) ∙ sym (drop-drop 1 k sides) in (
      c.loop-index.invariant.0 ∙ sym (length-set nows k w),
      on-next c.args.dir olds numbers c.args.set.now c.args.tally.now k nows (drop k sides)
          (drop (k + 1) (set sides k c.swap.new.y)) c.loop-index.set c.swap.new.x c.loop-index.tally
          c.step_into.new.tally c.loop-index.used.items c.push.new.self.items (here c.index-views-index.result) w
          c.in_ok-how.how lt few (ap here c.index-views-index.is) c.loop-index.invariant.1 c.step_into.ensures.asked
          (c.swap.ensures.x_after ∙ c.in_ok-how.ensures.to) c.in_ok-how.ensures.used c.in_ok-how.ensures.ticks
          c.in_ok-push.ensures.items used_up,
    )
