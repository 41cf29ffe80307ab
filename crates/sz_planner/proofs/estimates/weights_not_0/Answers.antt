-- The key idea: the tap at an index has the weight that stands there.
use Rattle.std.proofs.Common.{◌≡◌, ◌+◌, length, get_or, ℕ, pos, unwrap_or, arith, rules, sym, ap}
use Rattle.std.proofs.Common.{Bool, true, false, cond, map, ◌∙◌, w64}
use Rattle.std.specs.Prelude.{not}
use Rattle.std.specs.List.{filter, range_with_len, slice_get}
use Rattle.std.proofs.lemmas.List.FromFn.{filter_of_map_range_with_len_more}
use Rattle.std.proofs.lemmas.Grind.{common_steps}
use Rattle.std.proofs.lemmas.Int.{to_z-of_z}
use Rattle.std.proofs.lemmas.Option.{unwrap_or-slice_get}
use Rattle.sz_spec.specs.Weights.{Weights, Tap, is_zero, tap_at}
use Rattle.sz_planner.proofs.estimates.weights_not_0.Goals as goal
use Rattle.sz_planner.proofs.estimates.weights_not_0.Goals.{then-is_used, else-is_used}

abbrev used_before : Weights → ℕ → ℕ
used_before w n =
    length (filter (λ (t : Tap). not (is_zero t.weight)) (map (tap_at w) (range_with_len 0 n)))

used-more : (w : Weights) (n : ℕ) (used : Bool) → used ≡ not (is_zero (unwrap_or (slice_get w.weights n) (pos 0)))
    → used_before w (n + 1) ≡ used_before w n + cond used 1 0
used-more w n true is =
    rw (filter_of_map_range_with_len_more (λ (t : Tap). not (is_zero t.weight)) (tap_at w) 0 n n (omega arith), ← is)
    (grind (arith, common_steps))
used-more w n false is =
    rw (filter_of_map_range_with_len_more (λ (t : Tap). not (is_zero t.weight)) (tap_at w) 0 n n (omega arith), ← is)
    (grind (arith, common_steps))

pub loop-weight-preserved : goal.loop-weight-preserved
loop-weight-preserved c =
    let weights = c.args.kernel.now.weights in
    let i = c.loop-weight.weight-index in
    let here : unwrap_or (slice_get weights i) (pos 0) ≡ get_or c.weights-weight-items.result.now i (pos 0) =
    unwrap_or-slice_get weights i (pos 0) ∙ ap (λ xs. get_or xs i (pos 0)) (sym c.weights-weight-items.ensures) in
    let read = to_z-of_z w64 (get_or c.weights-weight-items.result.now i (pos 0)) (search rules) in
    let used : c.is_used.result ≡ not (is_zero (unwrap_or (slice_get weights i) (pos 0))) =
    c.is_used.ensures ∙ ap (λ z. not (is_zero z)) (read ∙ sym here) in
    elim c.if-is_used.branch [
      | then-is_used w ↦
          let more = used-more c.args.kernel.now i true (sym w.if-is_used.true ∙ used) in
          record { count = omega (arith, more, w.count-is, c.loop-weight.invariant.count); few = omega arith }
      | else-is_used w ↦
          let more = used-more c.args.kernel.now i false (sym w.if-is_used.false ∙ used) in
          record { count = omega (arith, more, w.count-is, c.loop-weight.invariant.count); few = omega arith }
    ]
