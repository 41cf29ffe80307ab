-- Behind the array's byte no set of its shape begins.
use Rattle.std.proofs.Common.{◌+◌, rules}
use Rattle.sz_region.proofs.Spans.{no-listed, on_bad-set, on_bad-weaker}
use Rattle.sz_region.proofs.take_full.take_listed_runs.Goals as goal

pub returns-in_err-next-clause-err : goal.returns-in_err-next-clause-err
returns-in_err-next-clause-err c =
    let none = on_bad-weaker c.in_err-next.field-0.0
    (no-listed c.args.out c.args.ins.now c.in-Some.head.1 c.in-Some.head.0 c.args.bytes.now c.args.at
    c.in-Some.ensures.array c.in-Some.ensures.shape)
    (on_bad-set c.in-Some.head.1 c.args.bytes.now (c.args.at + 1) c.in_err-next.field-0.0 c.in_err-next.ensures.err) in
    search rules
