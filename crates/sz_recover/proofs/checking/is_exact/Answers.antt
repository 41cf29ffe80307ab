-- The store that was made is exact, so another one is where both stand for the same.
use Rattle.std.proofs.Common.{subst}
use Rattle.std.specs.Bool.{Decides}
use Rattle.std.proofs.lemmas.Result.{IfOk-weaker}
use Rattle.std.specs.Prelude.{IfOk}
use Rattle.sz_spec.specs.Shapes.{Site}
use Rattle.sz_flow.specs.Executions.{execution_of}
use Rattle.sz_store.specs.Kept.{holding_for}
use Rattle.sz_recover.specs.Comparing.{AgreeOnEach}
use Rattle.sz_recover.specs.Soundness.{IsExact}
use Rattle.sz_recover.proofs.Made.{exact-where}
use Rattle.sz_recover.proofs.checking.is_exact.Goals as goal

pub returns : goal.returns
returns g c =
    let e = execution_of c.args.run.now in
    let made = holding_for c.args.s c.in_ok-made.made.stores in
    let held = holding_for c.args.s c.args.store.now.stores in
    let one = subst (λ (s : Site). IfOk c.are_one.result (λ b. Decides b (AgreeOnEach s made held))) c.deref.ensures
    c.are_one.ensures in
    IfOk-weaker c.are_one.result (λ b. Decides b (AgreeOnEach e.site made held)) (λ b. Decides b (IsExact e held))
    (λ b same. exact-where b e made held c.in_ok-made.ensures.exact same) one
