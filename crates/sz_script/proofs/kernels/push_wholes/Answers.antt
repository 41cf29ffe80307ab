-- An item that is no whole number ends the walk; after the last item the weights are those of all.
use Rattle.std.proofs.Common.{◌≡◌, ◌++◌, [], ◌∷◌, ℤ, Option, pos, Some}
use Rattle.std.proofs.Common.{ap, ◌∙◌, sym, arith, is_some, unwrap_or, rules}
use Rattle.std.specs.Int.{w64}
use Rattle.std.proofs.lemmas.Int.{to_z-of_z}
use mir.Val.{SFits}
use Rattle.serde_json.specs.View.{view}
use Rattle.sz_script.specs.Fields.{whole_in}
use Rattle.sz_script.specs.Kernels.{is_whole, weight_of}
use Rattle.sz_script.proofs.Walks.{walked_bad, walked_more, walked_each}
use Rattle.sz_script.proofs.kernels.push_wholes.Goals as goal

pub returns-in_default-clause-tested : goal.returns-in_default-clause-tested
returns-in_default-clause-tested c =
    sym (walked_bad is_whole c.args.items.now c.loop-item.item-index c.item-item.result c.loop-item-test.true
    c.item-item.is (ap is_some (sym c.whole_of.ensures ∙ c.in_default.is)))

pub loop-item-preserved : goal.loop-item-preserved
loop-item-preserved c =
    let here : whole_in (view c.item-item.result) ≡ Some c.in-Some.weight = sym c.whole_of.ensures ∙ c.in-Some.is in
    let weight : weight_of (view c.item-item.result) ≡ c.in-Some.weight =
    ap (λ (o : Option ℤ). unwrap_or o (pos 0)) here in
    let fits : SFits w64 c.in-Some.weight = search rules in
    walked_more is_whole (λ d. weight_of d ∷ []) c.args.items.now c.loop-item.item-index c.args.weights.now.items
    c.loop-item.weights.items c.push_weight.new.weights.items c.item-item.result c.loop-item-test.true c.item-item.is
    (ap is_some here)
    ((rw (to_z-of_z w64 c.in-Some.weight fits) at c.in_ok-push_weight.ensures)
    ∙ ap (λ (z : ℤ). c.loop-item.weights.items ++ z ∷ []) (sym weight))
    c.loop-item.invariant

pub returns-clause-pushed : goal.returns-clause-pushed
returns-clause-pushed c _ =
    walked_each is_whole weight_of c.args.items.now c.loop-item.item-index c.args.weights.now.items
    c.loop-item.weights.items (omega arith) c.loop-item.invariant
