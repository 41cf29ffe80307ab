-- One more payload stands behind those before it, and in the table under its number.
use Rattle.std.proofs.Common.{ℕ, ◌+◌, List, [], ◌∷◌, ◌++◌, length, sym, subst, ◌∙◌, arith}
use Rattle.std.proofs.Common.{length-append}
use Rattle.std.specs.List.{AllZip, flat_map}
use Rattle.std.proofs.lemmas.List.Elements.{All-push}
use Rattle.sz_region.specs.PayBytes.{IsShort, payload_bytes}
use Rattle.sz_region.proofs.PayStores.{payload-free}
use Rattle.sz_region.proofs.Spans.{at-more, no-number, no-table}
use Rattle.sz_tables.specs.Listed.{HasNumber}
use Rattle.sz_tables.proofs.Listed.{listed-more, numbered-more}
use Rattle.sz_tables.proofs.Taking.{more-length}
use Rattle.sz_tables.proofs.entry_reading.take_payloads.Goals as goal

pub returns-in_default-clause-err : goal.returns-in_default-clause-err
returns-in_default-clause-err c payloads rest few is =
    no-number c.args.bytes.now c.args.at (length payloads) (flat_map payload_bytes payloads ++ rest)
    c.in_default.ensures.none is

pub returns-in_default-payload_at-clause-err : goal.returns-in_default-payload_at-clause-err
returns-in_default-payload_at-clause-err c =
    let inv = c.loop-index.invariant in
    no-table IsShort payload_bytes payload-free c.args.bytes.now c.args.at c.in-Some.count c.loop-index.place inv.listed
    c.in-Some.ensures.some (omega arith) inv.each inv.bytes c.in_default-payload_at.ensures.none
    (omega (arith, inv.count))

pub loop-index-preserved : goal.loop-index-preserved
loop-index-preserved c =
    let inv = c.loop-index.invariant in
    let old = c.loop-index.table.payloads in
    let new = c.add_payload.new.table.payloads in
    let body = c.in-Some-payload_at.body.now in
    let number = c.in_ok-number.number in
    let ok = c.in_ok-number.ensures in
    record {
      listed = inv.listed ++ body ∷ [];
      count = length-append inv.listed (body ∷ []) ∙ (omega (arith, inv.count));
      each = All-push IsShort inv.listed body inv.each c.in-Some-payload_at.ensures.short;
      bytes = at-more payload_bytes c.args.bytes.now (c.args.at + 4) c.loop-index.place _ inv.listed body inv.bytes
          c.in-Some-payload_at.ensures.some;
      numbered = subst (λ (ns : List ℕ). AllZip (HasNumber new) ns (inv.listed ++ body ∷ []))
          (sym c.in_ok-push.ensures.items)
          (numbered-more old new c.loop-index.numbers.items inv.listed body number ok.1 ok.0 inv.numbered);
      own = listed-more old new inv.listed body ok.1 inv.own;
      few = omega (arith, (more-length old new body ok.1).1, inv.few);
    }
