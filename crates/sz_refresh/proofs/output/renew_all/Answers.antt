-- What the closure leaves at a place is what it makes of the value that it found there.
use Rattle.std.proofs.Common.{◌≡◌, ℕ, ◌<◌, List, Option, map, length, None, subst, ap, sym, ◌∙◌}
use Rattle.std.specs.Prelude.{get_or, ℤ}
use Rattle.std.specs.Arc.{arc_value}
use Rattle.sz_spec.specs.Values.{Grid}
use Rattle.sz_refresh.specs.Outputs.{renewed}
use Rattle.sz_refresh.proofs.output.renew_all.Goals as goal

pub returns : goal.returns
returns g c =
    let s = c.args.at.now in
    let inputs : List Grid = map (λ a. arc_value a) c.args.inputs.now in
    let among = c.args.among.now in
    let old = c.args.values.now in
    let new = c.par_for_each_mut.new.s in
    λ k low.
    let inside : k < length old = subst (λ (n : ℕ). k < n) (sym c.requires.long) low in
    let at = (c.par_for_each_mut.ensures k None inside).1 in
    let made : get_or new k None ≡ renewed s inputs among k at.argument.now =
    subst (λ (v : Option ℤ). v ≡ renewed s inputs among k at.argument.now) {y = get_or new k None} at.left at.call in
    made ∙ ap (renewed s inputs among k) at.argument_is
