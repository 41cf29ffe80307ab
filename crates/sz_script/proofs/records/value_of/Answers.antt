-- A field with a plus is put aside; of any other `parse` reads what it holds, and bytes that are no text hold nothing.
use Rattle.std.proofs.Common.{◌≢◌, get_or, sym, ◌∙◌, arith, Err}
use Rattle.sz_script.proofs.FieldValues.{value_read, value_parsed, value_of_no_text}
use Rattle.sz_script.proofs.records.value_of.Goals as goal

pub returns-in-Ok-parse : goal.returns-in-Ok-parse
returns-in-Ok-parse c =
    let read = rw c.in-Ok.ensures.cases.0 at c.in-Ok-parse.ensures.value.0 in
    let some = sym c.is_empty.ensures ∙ c.if-is_empty.false in
    let plus : get_or c.args.field.now 0 0 ≢ 43 = λ e. omega (arith, e) in
    value_read c.args.field.now c.in-Ok-parse.number some plus read

pub returns-in-Err-parse : goal.returns-in-Err-parse
returns-in-Err-parse c =
    let read = rw c.in-Ok.ensures.cases.0 at c.in-Err-parse.ensures.value.0 in
    let some = sym c.is_empty.ensures ∙ c.if-is_empty.false in
    let plus : get_or c.args.field.now 0 0 ≢ 43 = λ e. omega (arith, e) in
    sym (value_parsed c.args.field.now (Err c.in-Err-parse.field-0) some plus read)

pub returns-in-Err : goal.returns-in-Err
returns-in-Err c = sym (value_of_no_text c.args.field.now c.in-Err.ensures.cases.0)
