-- In format 2 short stores are read, and in any other format those that `sz_store` has.
use Rattle.std.proofs.Common.{ℕ, sym, subst}
use Rattle.std.specs.Prelude.{IfOk, IfErr}
use Rattle.std.specs.Arc.{arc_value}
use Rattle.std.proofs.lemmas.Result.{IfOk-weaker, IfErr-weaker}
use Rattle.sz_spec.specs.Shapes.{Site}
use Rattle.sz_region.specs.Stores.{OnBad}
use Rattle.sz_store.specs.Kept.{stored_in}
use Rattle.sz_store.specs.Words.{BeginEach, NoneBegin, SaysNone}
use Rattle.sz_formats.specs.Words.{BeginEachIn, NoneBeginIn}
use Rattle.sz_formats.proofs.Through.{long-each, long-refused}
use Rattle.sz_formats.proofs.stores.take_stores.Goals as goal

pub returns-then-format-eq2-clause-ok : goal.returns-then-format-eq2-clause-ok
returns-then-format-eq2-clause-ok g c =
    let s : Site = arc_value c.args.op in
    subst (λ (f : ℕ). IfOk c.take_short.result
    (λ r. BeginEachIn f s (stored_in c.args.list.now) c.args.bytes.now c.args.at r.1 r.0.stores))
    (sym c.if-format-eq2.true) c.take_short.ensures.ok

pub returns-then-format-eq2-clause-err : goal.returns-then-format-eq2-clause-err
returns-then-format-eq2-clause-err g c =
    let s : Site = arc_value c.args.op in
    subst (λ (f : ℕ). IfErr c.take_short.result
    (λ e. OnBad e (NoneBeginIn f s (stored_in c.args.list.now) c.args.bytes.now c.args.at)))
    (sym c.if-format-eq2.true) c.take_short.ensures.err

pub returns-else-format-eq2-clause-ok : goal.returns-else-format-eq2-clause-ok
returns-else-format-eq2-clause-ok g c =
    let s : Site = arc_value c.args.op in
    let ts = stored_in c.args.list.now in
    let bytes = c.args.bytes.now in
    IfOk-weaker c.take_bytes.result (λ r. BeginEach s ts bytes c.args.at r.1 r.0.stores)
    (λ r. BeginEachIn c.args.format s ts bytes c.args.at r.1 r.0.stores)
    (λ r begin. long-each c.args.format c.if-format-eq2.false s ts bytes c.args.at r.1 r.0.stores begin)
    c.take_bytes.ensures.ok

pub returns-else-format-eq2-clause-err : goal.returns-else-format-eq2-clause-err
returns-else-format-eq2-clause-err g c =
    let s : Site = arc_value c.args.op in
    let ts = stored_in c.args.list.now in
    let bytes = c.args.bytes.now in
    IfErr-weaker c.take_bytes.result (λ e. SaysNone (NoneBegin s ts bytes c.args.at) c.args.at e)
    (λ e. OnBad e (NoneBeginIn c.args.format s ts bytes c.args.at))
    (λ e says. long-refused c.args.format c.if-format-eq2.false s ts bytes c.args.at e says) c.take_bytes.ensures.err
