-- Where no payloads of the operator begin, no store of entries does.
use Rattle.std.proofs.Common.{rules}
use Rattle.std.specs.Arc.{arc_value}
use Rattle.sz_store.proofs.Reading.{none-begin}
use Rattle.sz_store.proofs.kept.take_pay.Goals as goal

pub returns-in_err-store-clause-err : goal.returns-in_err-store-clause-err
returns-in_err-store-clause-err c =
    let none = none-begin (arc_value c.args.at) c.args.comp c.args.bytes.now c.args.from c.in_err-store.field-0.0
    c.in_err-store.ensures.err in
    search rules
