-- What is said of the shape is said of the operator.
use Rattle.std.proofs.lemmas.Result.{IfErr-weaker}
use Rattle.sz_region.specs.Stores.{OnBad, SaysNoEntries}
use Rattle.sz_short.specs.ShortStores.{NoPayBegins, SaysNoShortPay}
use Rattle.sz_formats.specs.Formats.{spelling}
use Rattle.sz_formats.proofs.Said.{said-short-pay, said-long-pay}
use Rattle.sz_formats.proofs.respelling.respell_pay.Goals as goal

pub returns-then-format-eq2-clause-err : goal.returns-then-format-eq2-clause-err
returns-then-format-eq2-clause-err c =
    let out = c.args.op.now.out in
    IfErr-weaker c.widen_pay.result (λ e. SaysNoShortPay c.out.result c.args.bytes.now c.args.at e)
    (λ e. OnBad e (NoPayBegins (spelling c.args.format) out c.args.bytes.now c.args.at))
    (λ e says. said-short-pay c.args.format c.if-format-eq2.true c.out.result out c.args.bytes.now c.args.at e
    c.out.ensures.value says) c.widen_pay.ensures.err

pub returns-else-format-eq2-clause-err : goal.returns-else-format-eq2-clause-err
returns-else-format-eq2-clause-err c =
    let out = c.args.op.now.out in
    let o = c.out-else-format-eq2.result in
    IfErr-weaker c.shorten_pay.result (λ e. SaysNoEntries o c.args.bytes.now c.args.at e)
    (λ e. OnBad e (NoPayBegins (spelling c.args.format) out c.args.bytes.now c.args.at))
    (λ e says. said-long-pay c.args.format c.if-format-eq2.false o out c.args.bytes.now c.args.at e
    c.out-else-format-eq2.ensures.value says) c.shorten_pay.ensures.err
