-- Strategy by strategy.
use Rattle.std.proofs.Common.{◌≤◌, true, List, length, get_or, subst, arith}
use Rattle.std.specs.Prelude.{Bool, All}
use Rattle.std.proofs.lemmas.List.{take_all, get_or_default}
use Rattle.std.proofs.lemmas.List.Elements.{All-more}
use Rattle.sz_spec.specs.declared.modes.Strategy.{Strategy}
use Rattle.sz_spec.specs.declared.modes.Strategy.TheVariants.{Map}
use Rattle.sz_flow.specs.Executions.{execution_of}
use Rattle.sz_recover.specs.Soundness.{TellsOfStrategy}
use Rattle.sz_recover.proofs.Wrong.{ExactIn, listed-right, wrong-at, none-at}
use Rattle.sz_recover.proofs.checking.wrong_of_stores.Goals as goal

pub is_wrong-requires-clause-supported : goal.is_wrong-requires-clause-supported
is_wrong-requires-clause-supported g c κs within =
    let list = c.args.list.now in
    let i = c.loop-s.s-index in
    let t = get_or list i Map in
    (listed-right (execution_of c.args.run.now) c.args.store.now list i t c.loop-s-test.true
    (get_or_default list i Map t c.loop-s-test.true) c.requires.own c.requires.list).1

pub is_wrong-requires-clause-listed : goal.is_wrong-requires-clause-listed
is_wrong-requires-clause-listed g c κs within =
    let list = c.args.list.now in
    let i = c.loop-s.s-index in
    let t = get_or list i Map in
    (listed-right (execution_of c.args.run.now) c.args.store.now list i t c.loop-s-test.true
    (get_or_default list i Map t c.loop-s-test.true) c.requires.own c.requires.list).0

pub returns-then-branch : goal.returns-then-branch
returns-then-branch g c =
    let e = execution_of c.args.run.now in
    let kept = c.args.store.now in
    let list = c.args.list.now in
    let i = c.loop-s.s-index in
    let t = get_or list i Map in
    let wrong : TellsOfStrategy e kept t true =
    subst (λ (b : Bool). TellsOfStrategy e kept t b) c.if-branch.true c.in_ok-is_wrong.ensures in
    wrong-at e kept list i t c.loop-s-test.true (get_or_default list i Map t c.loop-s-test.true) c.requires.own
    c.requires.stored c.requires.list c.loop-s.invariant wrong

pub loop-s-preserved : goal.loop-s-preserved
loop-s-preserved g c =
    let e = execution_of c.args.run.now in
    let kept = c.args.store.now in
    All-more (ExactIn e kept.stores) c.args.list.now c.loop-s.s-index Map c.loop-s-test.true c.loop-s.invariant
    (subst (λ (b : Bool). TellsOfStrategy e kept (get_or c.args.list.now c.loop-s.s-index Map) b) c.if-branch.false
    c.in_ok-is_wrong.ensures)

pub returns : goal.returns
returns g c =
    let e = execution_of c.args.run.now in
    let kept = c.args.store.now in
    let list = c.args.list.now in
    let i = c.loop-s.s-index in
    let end : length list ≤ i = omega (arith, c.loop-s-test.false) in
    let all = subst (λ (ts : List Strategy). All (ExactIn e kept.stores) ts) (take_all i list end) c.loop-s.invariant in
    none-at e kept list c.requires.own c.requires.stored c.requires.list all
