-- The listed payloads and sets stand in the tables, and the rows that were read spell the entries that their names
-- name.
use Rattle.std.proofs.Common.{◌≡◌, ℕ, List, length, ap, sym, subst, ◌∙◌, arith, rules}
use Rattle.std.specs.List.{AllZip}
use Rattle.sz_region.proofs.Numbering.{zip-length}
use Rattle.sz_region.proofs.PayStores.{no-entries-names, no-entries-sets}
use Rattle.sz_region.proofs.Spans.{on_bad-weaker}
use Rattle.sz_tables.specs.Listed.{AreNamesOfRow, HasNumber, IsRead}
use Rattle.sz_tables.specs.declared.entry_table.EntryRow.{EntryRow}
use Rattle.sz_tables.proofs.Listed.{is-read, rows-inside}
use Rattle.sz_tables.proofs.entry_reading.take_all.Goals as goal

pub returns-in_err-second-clause-err : goal.returns-in_err-second-clause-err
returns-in_err-second-clause-err c =
    let first = c.in_ok-first.ensures.ok in
    let none = on_bad-weaker c.in_err-second.field-0.0
    (no-entries-sets c.args.out c.args.bytes.now c.args.at c.in_ok-first.first first.0 first.1 first.4)
    c.in_err-second.ensures.err in
    search rules

pub take_rows-requires-clause-few_outs : goal.take_rows-requires-clause-few_outs
take_rows-requires-clause-few_outs c =
    let second = c.in_ok-second.ensures.ok in
    omega (
      arith,
      ap length c.deref.ensures.value,
      zip-length (HasNumber c.take_sets.new.table.sets) c.take_sets.new.numbers.items second.0 second.2,
      second.1.1,
    )

pub take_rows-requires-clause-few_bodies : goal.take_rows-requires-clause-few_bodies
take_rows-requires-clause-few_bodies c =
    let first = c.in_ok-first.ensures.ok in
    omega (
      arith,
      ap length c.deref-2.ensures.value,
      zip-length (HasNumber c.take_payloads.new.table.payloads) c.take_payloads.new.numbers.items first.0 first.2,
      first.1.1,
    )

pub returns-in_err-next-clause-err : goal.returns-in_err-next-clause-err
returns-in_err-next-clause-err c =
    let first = c.in_ok-first.ensures.ok in
    let second = c.in_ok-second.ensures.ok in
    let outs : length second.0 ≡ length c.deref.result.now =
    sym (ap length c.deref.ensures.value
    ∙ zip-length (HasNumber c.take_sets.new.table.sets) c.take_sets.new.numbers.items second.0 second.2) in
    let bodies : length first.0 ≡ length c.deref-2.result.now =
    sym (ap length c.deref-2.ensures.value
    ∙ zip-length (HasNumber c.take_payloads.new.table.payloads) c.take_payloads.new.numbers.items first.0 first.2) in
    let none = on_bad-weaker c.in_err-next.field-0.0
    (no-entries-names c.args.out c.args.bytes.now c.args.at c.in_ok-first.first c.in_ok-second.second first.0 second.0
    c.requires first.1 first.4 second.1 second.3) (c.in_err-next.ensures.err second.0 first.0 outs bodies) in
    search rules

-- what the names lead to
named : (outs bodies to too : List ℕ) (names : List (List ℕ)) (rows : List EntryRow) → outs ≡ to → bodies ≡ too
    → AllZip (AreNamesOfRow outs bodies) names rows → AllZip (AreNamesOfRow to too) names rows
named outs bodies to too names rows same alike zip =
    subst (λ (xs : List ℕ). AllZip (AreNamesOfRow xs too) names rows) same
    (subst (λ (xs : List ℕ). AllZip (AreNamesOfRow outs xs) names rows) alike zip)

pub of_rows-requires-clause-named : goal.of_rows-requires-clause-named
of_rows-requires-clause-named c =
    let first = c.in_ok-first.ensures.ok in
    let second = c.in_ok-second.ensures.ok in
    let next = c.in_ok-next.ensures.ok in
    let outs = c.take_sets.new.numbers.items in
    let bodies = c.take_payloads.new.numbers.items in
    rows-inside c.take_sets.new.table.sets second.0 c.take_payloads.new.table.payloads first.0 outs bodies next.0
    c.take_rows.new.rows.items second.2 first.2
    (named c.deref.result.now c.deref-2.result.now outs bodies next.0 c.take_rows.new.rows.items c.deref.ensures.value
    c.deref-2.ensures.value next.1)

pub returns-in-Some-clause-ok : goal.returns-in-Some-clause-ok
returns-in-Some-clause-ok c =
    let first = c.in_ok-first.ensures.ok in
    let second = c.in_ok-second.ensures.ok in
    let next = c.in_ok-next.ensures.ok in
    let outs = c.take_sets.new.numbers.items in
    let bodies = c.take_payloads.new.numbers.items in
    let t = c.in-Some.table in
    subst (IsRead c.args.out c.args.bytes.now c.args.at c.in_ok-next.next) (sym c.in-Some.ensures)
    (is-read c.args.out c.args.bytes.now c.args.at c.in_ok-first.first c.in_ok-second.second c.in_ok-next.next
    c.take_sets.new.table c.take_payloads.new.table c.take_rows.new.rows.items t.capacities outs bodies second.0 first.0
    next.0 first.1 first.4 first.2 first.3 second.1 second.3 second.2
    (named c.deref.result.now c.deref-2.result.now outs bodies next.0 c.take_rows.new.rows.items c.deref.ensures.value
    c.deref-2.ensures.value next.1) c.in_ok-next.ensures.few next.2)
