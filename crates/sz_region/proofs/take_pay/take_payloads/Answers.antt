-- One more payload stands behind those before it.
use Rattle.std.proofs.Common.{◌≡◌, ℕ, ◌+◌, List, [], ◌∷◌, ◌++◌, length, map, ap, sym, subst, ◌∙◌, arith}
use Rattle.std.specs.Arc.{arc_value}
use Rattle.std.specs.List.{flat_map}
use Rattle.std.proofs.lemmas.List.{length-map}
use Rattle.std.proofs.lemmas.Result.{err_from_is_err_and}
use Rattle.sz_region.specs.PayBytes.{IsShort, payload_bytes}
use Rattle.sz_region.proofs.Spans.{on_bad-weaker, no-number, no-table}
use Rattle.sz_region.proofs.PayStores.{payload-free}
use Rattle.sz_region.proofs.take_pay.take_payloads.Goals as goal

pub returns-in_default-clause-err : goal.returns-in_default-clause-err
returns-in_default-clause-err c payloads rest few is =
    no-number c.args.bytes.now c.args.at (length payloads) (flat_map payload_bytes payloads ++ rest)
    c.in_default.ensures.none is

pub returns-in_err-payload-clause-err : goal.returns-in_err-payload-clause-err
returns-in_err-payload-clause-err c =
    let inv = c.loop-index.invariant in
    let payloads = map (λ p. arc_value p) c.loop-index.table.items in
    let long : length payloads ≡ c.loop-index._index = length-map c.loop-index.table.items (λ p. arc_value p)
    ∙ inv.count in
    let none = on_bad-weaker c.in_err-payload.field-0.0
    (λ missing. no-table IsShort payload_bytes payload-free c.args.bytes.now c.args.at c.in-Some.count
    c.loop-index.place
    payloads c.in-Some.ensures.some (omega arith) inv.each inv.bytes missing (omega arith))
    c.in_err-payload.ensures.err in
    let p = err_from_is_err_and c.from_residual.result c.from_residual.ensures.1 in
    rw (p.1, p.2) none
