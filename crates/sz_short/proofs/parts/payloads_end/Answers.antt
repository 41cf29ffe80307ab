-- One more payload stands behind those before it.
use Rattle.std.proofs.Common.{◌+◌, [], ◌∷◌, ◌++◌, length, arith, rules}
use Rattle.std.specs.List.{flat_map}
use Rattle.std.proofs.lemmas.List.{length_push}
use Rattle.std.proofs.lemmas.List.Elements.{All-push}
use Rattle.sz_region.specs.Counted.{counted}
use Rattle.sz_region.specs.PayBytes.{IsShort, payload_bytes}
use Rattle.sz_region.specs.Stores.{NoneAt, AreFew}
use Rattle.sz_region.proofs.PayStores.{payload-free}
use Rattle.sz_region.proofs.Spans.{at-more, no-number, no-table}
use Rattle.sz_short.proofs.parts.payloads_end.Goals as goal

pub returns-in_err-count-clause-none : goal.returns-in_err-count-clause-none
returns-in_err-count-clause-none c =
    let none : NoneAt (AreFew IsShort) (counted payload_bytes) c.args.bytes.now c.args.at = λ ps rest few is.
    no-number c.args.bytes.now c.args.at (length ps) (flat_map payload_bytes ps ++ rest) c.in_err-count.ensures.none is
    in
    search rules

pub returns-in_err-place-clause-none : goal.returns-in_err-place-clause-none
returns-in_err-place-clause-none c =
    let inv = c.loop-index.invariant in
    let none = no-table IsShort payload_bytes payload-free c.args.bytes.now c.args.at c.in_ok-count.count
    c.loop-index.place inv.payloads c.in_ok-count.ensures.some (omega arith) inv.each inv.bytes
    c.in_err-place.ensures.none (omega (arith, inv.count)) in
    search rules

pub loop-index-preserved : goal.loop-index-preserved
loop-index-preserved c =
    let inv = c.loop-index.invariant in
    let more = c.in_ok-place.ensures.some in
    record {
      payloads = inv.payloads ++ more.0 ∷ [];
      count = omega (arith, length_push inv.payloads more.0, inv.count);
      order = omega (arith, inv.order, c.in_ok-place.ensures.order);
      each = All-push IsShort inv.payloads more.0 inv.each more.1;
      bytes = at-more payload_bytes c.args.bytes.now (c.args.at + 4) c.loop-index.place c.in_ok-place.place inv.payloads
          more.0 inv.bytes more.2;
    }
