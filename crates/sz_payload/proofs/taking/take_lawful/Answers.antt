-- The table of payloads has one reading, so it tells whether the store is one of the operator.
use Rattle.std.proofs.Common.{◌++◌, refl, subst}
use Rattle.sz_cells.specs.Extent.{Extent}
use Rattle.sz_cells.specs.SetBytes.{set_bytes}
use Rattle.sz_region.specs.Counted.{counted, rows_bytes}
use Rattle.sz_region.specs.PayBytes.{BeginsEntries}
use Rattle.sz_region.specs.Stores.{SaysNoEntries}
use Rattle.sz_tables.specs.Entries.{entries}
use Rattle.sz_tables.specs.Listed.{BeginsTable}
use Rattle.sz_payload.proofs.Judged.{table-of, forget, judge, lawful-listed, says-none}
use Rattle.sz_payload.proofs.taking.take_lawful.Goals as goal

pub are_lawful-requires-clause-table : goal.are_lawful-requires-clause-table
are_lawful-requires-clause-table c =
    let s = c.args.at.now in
    let es = entries c.in-Ok.taken.0 in
    let b = subst (λ (e : Extent). BeginsEntries e c.args.bytes.now c.args.from c.in-Ok.taken.1 es) c.out.ensures.value
    c.in-Ok.ensures.ok in (
      b.payloads,
      counted set_bytes b.sets ++ (rows_bytes b.is_word.names ++ b.rest),
      table-of s c.args.bytes.now c.args.from c.in-Ok.taken.1 es b,
    )

pub returns-then-are_lawful-clause-ok : goal.returns-then-are_lawful-clause-ok
returns-then-are_lawful-clause-ok c =
    let s = c.args.at.now in
    let es = entries c.in-Ok.taken.0 in
    let b = subst (λ (e : Extent). BeginsEntries e c.args.bytes.now c.args.from c.in-Ok.taken.1 es) c.out.ensures.value
    c.in-Ok.ensures.ok in
    judge s c.args.bytes.now c.args.from c.in-Ok.taken.1 es b
    (c.are_lawful.ensures.yes c.if-are_lawful.true b.payloads
    (counted set_bytes b.sets ++ (rows_bytes b.is_word.names ++ b.rest))
    (table-of s c.args.bytes.now c.args.from c.in-Ok.taken.1 es b))

pub returns-then-are_lawful-clause-lawful : goal.returns-then-are_lawful-clause-lawful
returns-then-are_lawful-clause-lawful c =
    let s = c.args.at.now in
    let t = c.in-Ok.taken.0 in
    let read = subst (λ (e : Extent). BeginsTable e c.args.bytes.now c.args.from c.in-Ok.taken.1 t) c.out.ensures.value
    c.in-Ok.ensures.payloads in
    let b = read.begins in
    lawful-listed s b.payloads t.payloads
    (c.are_lawful.ensures.yes c.if-are_lawful.true b.payloads
    (counted set_bytes b.sets ++ (rows_bytes b.is_word.names ++ b.rest))
    (table-of s c.args.bytes.now c.args.from c.in-Ok.taken.1 (entries t) b)) read.payloads

pub returns-else-are_lawful-clause-err : goal.returns-else-are_lawful-clause-err
returns-else-are_lawful-clause-err c =
    let s = c.args.at.now in (
      refl,
      λ next es b. c.are_lawful.ensures.no c.if-are_lawful.false b.payloads
          (counted set_bytes b.sets ++ (rows_bytes b.is_word.names ++ b.rest))
          (table-of s c.args.bytes.now c.args.from next es (forget s c.args.bytes.now c.args.from next es b)) b.lawful,
    )

pub returns-in-Err-clause-err : goal.returns-in-Err-clause-err
returns-in-Err-clause-err c =
    let s = c.args.at.now in
    says-none s c.args.bytes.now c.args.from c.in-Err.fault
    (subst (λ (e : Extent). SaysNoEntries e c.args.bytes.now c.args.from c.in-Err.fault) c.out.ensures.value
    c.in-Err.ensures.err)
