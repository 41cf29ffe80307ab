-- The value of each cell is what is made of the number at the cell.
use Rattle.std.proofs.Common.{◌≡◌, List, Option, length, map, sym, ap, subst, ◌∙◌}
use Rattle.std.specs.Prelude.{ℤ, IfOk}
use Rattle.std.specs.Arc.{arc_value}
use Rattle.sz_cells.specs.Extent.{size_of}
use Rattle.sz_spec.specs.Values.{Grid, input_at, with_number}
use Rattle.sz_ops_local.proofs.Arithmetic.{some-input, ones-values}
use Rattle.sz_ops_local.proofs.whole.of_all.Goals as goal

pub returns : goal.returns
returns g c =
    let s = c.args.at.now in
    let grids = map (λ a. arc_value a) c.args.inputs.now in
    let f = g.F.OfOne.made c.args.f.now in
    let values = c.cells.ensures.values ∙ ap (λ (x : Grid). x.values) c.input_of.ensures.value in
    let long : length (input_at grids 0).values ≡ size_of (input_at grids 0).extent =
    ap (λ (xs : List (Option ℤ)). length xs) (sym values) ∙ c.cells.ensures.count
    ∙ ap (λ (x : Grid). size_of x.extent) c.input_of.ensures.value in
    subst (λ (xs : List (Option ℤ)). IfOk c.ones.result (λ v. v.items ≡ xs))
    (ap (λ (xs : List (Option ℤ)). map (with_number f) xs) values
    ∙ ones-values s grids f c.requires.op c.requires.right (some-input s.op c.requires.op) long c.requires.each)
    c.ones.ensures
