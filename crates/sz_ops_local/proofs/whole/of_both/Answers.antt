-- The value of each cell is what is made of the two numbers at the cell.
use Rattle.std.proofs.Common.{◌≡◌, List, Option, length, map, sym, ap, ap₂, subst, ◌∙◌}
use Rattle.std.specs.Prelude.{ℤ, IfOk}
use Rattle.std.specs.Arc.{arc_value}
use Rattle.std.specs.List.{zip}
use Rattle.sz_cells.specs.Extent.{size_of}
use Rattle.sz_spec.specs.Values.{Grid, input_at, with_numbers}
use Rattle.sz_ops_local.proofs.Arithmetic.{twos-values}
use Rattle.sz_ops_local.proofs.whole.of_both.Goals as goal

pub returns : goal.returns
returns g c =
    let s = c.args.at.now in
    let grids = map (λ a. arc_value a) c.args.inputs.now in
    let f = g.F.OfTwo.made c.args.f.now in
    let first = c.cells-first.ensures.values ∙ ap (λ (x : Grid). x.values) c.input_of.ensures.value in
    let second = c.cells-second.ensures.values ∙ ap (λ (x : Grid). x.values) c.input_of-2.ensures.value in
    let long : length (input_at grids 0).values ≡ size_of (input_at grids 0).extent =
    ap (λ (xs : List (Option ℤ)). length xs) (sym first) ∙ c.cells-first.ensures.count
    ∙ ap (λ (x : Grid). size_of x.extent) c.input_of.ensures.value in
    let also : length (input_at grids 1).values ≡ size_of (input_at grids 1).extent =
    ap (λ (xs : List (Option ℤ)). length xs) (sym second) ∙ c.cells-second.ensures.count
    ∙ ap (λ (x : Grid). size_of x.extent) c.input_of-2.ensures.value in
    subst (λ (xs : List (Option ℤ)). IfOk c.twos.result (λ v. v.items ≡ xs))
    (ap₂ (λ (xs ys : List (Option ℤ)). map (λ p. with_numbers f p.0 p.1) (zip xs ys)) first second
    ∙ twos-values s grids f c.requires.op c.requires.right c.requires.two long also c.requires.each)
    c.twos.ensures
