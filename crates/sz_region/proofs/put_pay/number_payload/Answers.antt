-- The payload is the last one of the table, or the one behind it.
use Rattle.std.proofs.Common.{◌≡◌, ℕ, ◌-◌, List, [], ◌∷◌, ◌++◌, length, Some, ap, sym, subst, ◌∙◌, arith}
use Rattle.std.specs.List.{slice_get}
use Rattle.std.proofs.lemmas.List.{length_push}
use Rattle.sz_region.specs.Putting.{IsPayloadNumbered}
use Rattle.sz_region.proofs.NumberingPay.{payload-new, payload-known}
use Rattle.sz_region.proofs.put_pay.number_payload.Goals as goal
use Rattle.sz_region.proofs.put_pay.number_payload.Goals.{then-not-is_last+in_ok-push, else-not-is_last}

pub returns : goal.returns
returns c =
    let payloads : List (List ℕ) = c.args.payloads.now.items in
    let bytes = c.args.bytes.now in
    let n = c.len.result - 1 in
    let long : c.len.result ≡ length c.if-not-is_last.payloads.items = omega (arith, c.len.ensures) in
    elim c.if-not-is_last.branch [
      | then-not-is_last+in_ok-push w ↦
          let after : c.if-not-is_last.payloads.items ≡ payloads ++ bytes ∷ [] =
          ap (λ v. v.items) w.payloads-is ∙ w.in_ok-push.ensures.items in
          subst (λ (xs : List (List ℕ)). IsPayloadNumbered payloads xs bytes n) (sym after)
          (payload-new payloads bytes n c.requires.short (omega (arith, ap length after)))
      | else-not-is_last w ↦
          let after : c.if-not-is_last.payloads.items ≡ payloads = ap (λ v. v.items) w.payloads-is in
          let is : slice_get payloads (length payloads - 1) ≡ Some bytes =
          subst (λ (xs : List (List ℕ)). slice_get xs (length xs - 1) ≡ Some bytes) c.deref.ensures.value
          (c.is_last.ensures w.if-not-is_last.false) in
          subst (λ (xs : List (List ℕ)). IsPayloadNumbered payloads xs bytes n) (sym after)
          (payload-known payloads bytes n is (omega (arith, ap length after)))
    ]
