-- An operator of one input has no other, and the keys of a lookup are its first.
use Rattle.std.proofs.Common.{◌≡◌, ℕ, List, map, sym, ap, subst, ◌∙◌, arith, OnOk}
use Rattle.std.specs.Arc.{arc_value}
use Rattle.sz_cells.specs.Cells.{with_those}
use Rattle.sz_spec.specs.Values.{Grid, extent_at}
use Rattle.sz_spec.specs.Shapes.{arity}
use Rattle.sz_refresh.specs.Changes.{reaches}
use Rattle.sz_refresh.proofs.reached.add_by_values.Goals as goal

pub add_cleaned-requires-clause-from : goal.add_cleaned-requires-clause-from
add_cleaned-requires-clause-from c =
    let one : arity c.args.at.now.op ≡ 1 = ap arity (sym c.op.ensures.value ∙ c.in-Clean.is) in
    let only : c.args.number ≡ 0 = omega (arith, one, c.requires.number, c.at_work.ensures.right.site.arity) in
    c.requires.from ∙ ap (extent_at c.args.at.now.ins) only

pub returns-in-Clean : goal.returns-in-Clean
returns-in-Clean c =
    let s = c.args.at.now in
    let a : List Grid = map (λ x. arc_value x) c.args.old.now in
    let b : List Grid = map (λ x. arc_value x) c.args.new.now in
    let one : arity s.op ≡ 1 = ap arity (sym c.op.ensures.value ∙ c.in-Clean.is) in
    let only : c.args.number ≡ 0 = omega (arith, one, c.requires.number, c.at_work.ensures.right.site.arity) in
    subst (λ (m : ℕ). OnOk c.add_cleaned.result (c.add_cleaned.new.to
    ≡ with_those c.args.to.now (reaches s.op a b m c.args.from.now))) (sym only) c.add_cleaned.ensures
