-- What is said of the shapes is said of the operator.
use Rattle.std.proofs.lemmas.Result.{IfErr-weaker}
use Rattle.sz_region.specs.Stores.{OnBad, SaysNoRegions}
use Rattle.sz_short.specs.ShortStores.{NoFullBegins, SaysNoShortFull}
use Rattle.sz_formats.specs.Formats.{spelling}
use Rattle.sz_formats.proofs.Said.{said-short-full, said-long-full}
use Rattle.sz_formats.proofs.respelling.respell_full.Goals as goal

pub returns-then-format-eq2-clause-err : goal.returns-then-format-eq2-clause-err
returns-then-format-eq2-clause-err c =
    let out = c.args.op.now.out in
    let ins = c.args.op.now.ins in
    IfErr-weaker c.widen_full.result
    (λ e. SaysNoShortFull c.out.result c.ins.result.now c.args.bytes.now c.args.at e)
    (λ e. OnBad e (NoFullBegins (spelling c.args.format) out ins c.args.bytes.now c.args.at))
    (λ e says. said-short-full c.args.format c.if-format-eq2.true c.out.result out c.ins.result.now ins
    c.args.bytes.now c.args.at e c.out.ensures.value c.ins.ensures.value says) c.widen_full.ensures.err

pub returns-else-format-eq2-clause-err : goal.returns-else-format-eq2-clause-err
returns-else-format-eq2-clause-err c =
    let out = c.args.op.now.out in
    let ins = c.args.op.now.ins in
    let o = c.out-else-format-eq2.result in
    let i = c.ins-else-format-eq2.result.now in
    IfErr-weaker c.shorten_full.result (λ e. SaysNoRegions o i c.args.bytes.now c.args.at e)
    (λ e. OnBad e (NoFullBegins (spelling c.args.format) out ins c.args.bytes.now c.args.at))
    (λ e says. said-long-full c.args.format c.if-format-eq2.false o out i ins c.args.bytes.now c.args.at e
    c.out-else-format-eq2.ensures.value c.ins-else-format-eq2.ensures.value says) c.shorten_full.ensures.err
