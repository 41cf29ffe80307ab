-- The set's number, and behind it the payload's.
use Rattle.std.proofs.Common.{◌≡◌, ℕ, ◌+◌, List, [], ◌∷◌, ◌++◌, length, map, ap, sym, subst, ◌∙◌, arith, rules}
use Rattle.std.specs.Arc.{arc_value}
use Rattle.std.specs.List.{flat_map}
use Rattle.std.proofs.lemmas.List.{length-map}
use Rattle.sz_cells.specs.SetBytes.{four_bytes}
use Rattle.sz_region.specs.Counted.{IsAt}
use Rattle.sz_region.proofs.Spans.{at-both, on_bad-weaker}
use Rattle.sz_region.proofs.PayStores.{no-entry-out, no-entry-payload}
use Rattle.sz_region.proofs.take_pay.take_entry.Goals as goal

pub returns-in_err-payload-clause-err : goal.returns-in_err-payload-clause-err
returns-in_err-payload-clause-err c =
    let sets = map (λ s. arc_value s) c.args.sets.now in
    let payloads = map (λ p. arc_value p) c.args.payloads.now in
    let out = c.in_ok-out.ensures.ok in
    let few : length sets ≡ length c.args.sets.now = length-map c.args.sets.now (λ s. arc_value s) in
    let none = on_bad-weaker c.in_err-payload.field-0.0
    (no-entry-payload sets payloads (length c.args.payloads.now) out.0 (arc_value c.in_ok-out.out) c.args.bytes.now
    c.args.at (omega (arith, c.requires.few_sets)) (length-map c.args.payloads.now (λ p. arc_value p)) out.2 out.1)
    c.in_err-payload.ensures.err in
    search rules

pub returns-clause-ok : goal.returns-clause-ok
returns-clause-ok c =
    let out = c.in_ok-out.ensures.ok in
    let payload = c.in_ok-payload.ensures.ok in
    let far : c.args.at + 4 + 4 ≡ c.args.at + 8 = omega arith in (
      out.0 ∷ payload.0 ∷ [],
      (out.1, payload.1),
      subst (λ (n : ℕ). IsAt c.args.bytes.now c.args.at n (four_bytes out.0 ++ four_bytes payload.0)) far
          (at-both c.args.bytes.now c.args.at (c.args.at + 4) (c.args.at + 4 + 4) (four_bytes out.0)
          (four_bytes payload.0) out.2 payload.2),
    )
