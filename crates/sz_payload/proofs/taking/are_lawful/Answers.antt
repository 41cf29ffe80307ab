-- One payload more, which ends the look where it is none of the operator's.
use Rattle.std.proofs.Common.{◌≡◌, ℕ, ◌+◌, ◌<◌, ◌≤◌, [], true≢false, length, get_or, drop}
use Rattle.std.proofs.Common.{rules, sym, ap, ◌∙◌, arith}
use Rattle.std.specs.List.{slice_range}
use Rattle.sz_spec.specs.Payloads.{is_payload}
use Rattle.sz_payload.proofs.Judged.{judged-none, judged-next, judged-more, judged-all, table-count, table-within}
use Rattle.sz_payload.proofs.taking.are_lawful.Goals as goal

pub number_at-count-requires : goal.number_at-count-requires
number_at-count-requires c =
    let table = c.requires.table in
    table-within c.args.bytes.now c.args.from table.0 table.1 table.2

pub loop-index-init : goal.loop-index-init
loop-index-init c = record {
  count = λ payloads rest table. c.number_at-count.ensures ∙ table-count c.args.bytes.now c.args.from
      payloads rest table;
  judged = judged-none c.args.at.now c.args.bytes.now c.args.from;
}

pub payload_at-payload-requires : goal.payload_at-payload-requires
payload_at-payload-requires c =
    let s = c.args.at.now in
    let bytes = c.args.bytes.now in
    let place = c.loop-index.place in
    let n = c.loop-index._index in
    let inv = c.loop-index.invariant in
    let table = c.requires.table in
    let inside : n < length table.0 = omega (arith, inv.count table.0 table.1 table.2, c.loop-index-test.true) in
    let next = judged-next s bytes place n table.0 table.1 inside table.2.short (inv.judged table.0 table.1 table.2) in
    omega (arith, next.number, next.within)

pub overflow_add-place-in-loop-index-2 : goal.overflow_add-place-in-loop-index-2
overflow_add-place-in-loop-index-2 c =
    let s = c.args.at.now in
    let bytes = c.args.bytes.now in
    let place = c.loop-index.place in
    let n = c.loop-index._index in
    let inv = c.loop-index.invariant in
    let table = c.requires.table in
    let inside : n < length table.0 = omega (arith, inv.count table.0 table.1 table.2, c.loop-index-test.true) in
    let next = judged-next s bytes place n table.0 table.1 inside table.2.short (inv.judged table.0 table.1 table.2) in
    let within : place + (4 + length c.payload_at-payload.result.now) ≤ length bytes =
    omega (arith, c.payload_at-payload.ensures.long, next.number, next.within) in
    first_of (search rules, grind (arith, within), omega (arith, within))

pub returns-then-not-is_payload-clause-no : goal.returns-then-not-is_payload-clause-no
returns-then-not-is_payload-clause-no c = λ f payloads rest table lawful.
    let s = c.args.at.now in
    let bytes = c.args.bytes.now in
    let place = c.loop-index.place in
    let n = c.loop-index._index in
    let inv = c.loop-index.invariant in
    let inside : n < length payloads = omega (arith, inv.count payloads rest table, c.loop-index-test.true) in
    let next = judged-next s bytes place n payloads rest inside table.short (inv.judged payloads rest table) in
    let own : c.payload_at-payload.result.now ≡ get_or payloads n [] =
    c.payload_at-payload.ensures.value
    ∙ ap (λ (m : ℕ). slice_range bytes (place + 4) (place + 4 + m)) next.number ∙ next.own in
    absurd
    (true≢false
    (sym (lawful n [] inside) ∙ ap (is_payload s.op s.ins) (sym own) ∙ sym c.is_payload.ensures
    ∙ c.if-not-is_payload.true))

pub loop-index-preserved : goal.loop-index-preserved
loop-index-preserved c =
    let s = c.args.at.now in
    let bytes = c.args.bytes.now in
    let place = c.loop-index.place in
    let n = c.loop-index._index in
    let inv = c.loop-index.invariant in
    record {
      count = inv.count;
      judged = λ payloads rest table.
          let inside : n < length payloads = omega (arith, inv.count payloads rest table, c.loop-index-test.true) in
          let next = judged-next s bytes place n payloads rest inside table.short (inv.judged payloads rest table) in
          let own : c.payload_at-payload.result.now ≡ get_or payloads n [] =
          c.payload_at-payload.ensures.value
          ∙ ap (λ (m : ℕ). slice_range bytes (place + 4) (place + 4 + m)) next.number ∙ next.own in
          let far : place + (4 + length c.payload_at-payload.result.now) ≡ place + 4 + length (get_or payloads n []) =
          omega (arith, c.payload_at-payload.ensures.long, next.number) in
          judged-more s bytes place (place + (4 + length c.payload_at-payload.result.now)) n payloads rest inside
          (inv.judged payloads rest table) (ap (λ (m : ℕ). drop m bytes) far ∙ next.behind)
          (ap (is_payload s.op s.ins) (sym own) ∙ sym c.is_payload.ensures ∙ c.if-not-is_payload.false);
    }

pub returns-clause-yes : goal.returns-clause-yes
returns-clause-yes c = λ t payloads rest table.
    judged-all c.args.at.now c.args.bytes.now c.loop-index.place c.loop-index._index payloads rest
    (omega (arith, c.loop-index.invariant.count payloads rest table))
    (c.loop-index.invariant.judged payloads rest table)
