-- A number that is not between the ends names no cell.
use Rattle.std.proofs.Common.{◌≡◌, ℕ, ◌+◌, ◌==◌, false, min, max, sym, ap, ◌∙◌, eqb-true}
use Rattle.std.proofs.lemmas.Bool.{false_from_ne_true}
use Rattle.sz_refresh.proofs.Names.{number-out, ends-between}
use Rattle.sz_refresh.proofs.named.has_counted.Goals as goal

pub returns-else-min-number : goal.returns-else-min-number
returns-else-min-number c =
    let n = c.args.number in
    let low : ℕ = c.args.first + c.args.span.least in
    let high : ℕ = c.args.first + c.args.span.last in
    let kept : c.min.result ≡ min (max n low) high =
    c.min.ensures ∙ ap (λ (m : ℕ). min m high) c.max.ensures in
    let apart : (c.min.result == n) ≡ false =
    false_from_ne_true (c.min.result == n) (λ same. c.if-min-number.false (eqb-true c.min.result n same)) in
    apart
    ∙ sym (number-out c.args.first c.args.span.least c.args.span.last n c.args.set.now c.requires.within
    (ends-between low high n (ap (λ (m : ℕ). m == n) (sym kept) ∙ apart)))
