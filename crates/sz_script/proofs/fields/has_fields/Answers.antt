-- The value is an object, of another number of members, without one of the names, or with all of them.
use Rattle.std.proofs.Common.{◌≢◌, ◌≡◌, length, sym, arith}
use Rattle.sz_script.proofs.FieldsRead.{fewer_fields, no_field, all_fields}
use Rattle.sz_script.proofs.fields.has_fields.Goals as goal

pub returns-then-len-names : goal.returns-then-len-names
returns-then-len-names c =
    let other : length c.in-Some.members.now.entries ≢ length c.args.names.now = omega arith in
    sym (fewer_fields c.args.names.now _ c.in-Some.members.now.entries (sym c.in-Some.ensures) other)

pub returns-then-is_none : goal.returns-then-is_none
returns-then-is_none c =
    sym (no_field c.args.names.now _ _ c.loop-name.name-index _ c.get.result
    (sym c.in-Some.ensures) c.loop-name-test.true c.get.ensures c.if-is_none.ensures)

pub returns : goal.returns
returns c =
    let same : length c.in-Some.members.now.entries ≡ length c.args.names.now = omega arith in
    let end : c.loop-name.name-index ≡ length c.args.names.now = omega arith in
    sym (all_fields c.args.names.now _ c.in-Some.members.now.entries _
    (sym c.in-Some.ensures) same end c.loop-name.invariant)
